use Rattle.std.proofs.Common.{◌≡◌, take, false}
use Rattle.std.specs.List.{list_any}
use Rattle.gpu_vulkan.specs.Setup.{lacks_heap}
use Rattle.gpu_c.specs.Allocator.{device_told, memory_type_told}
use Rattle.gpu_c.specs.declared.allocator_values.AllocatorSettings.{AllocatorSettings}
use Rattle.gpu_c.proofs.allocator_request.lacks_heap.Given as goal

abbrev pub invariant-loop-info : goal.invariant-loop-info
invariant-loop-info l = (s : AllocatorSettings) → list_any (λ t. lacks_heap (device_told l.types l.heaps s) (memory_type_told t)) (take l.info-index l.types) ≡ false
