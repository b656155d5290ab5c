use Rattle.std.proofs.Common.{◌≡◌, ℕ, take, false}
use Rattle.std.specs.List.{list_any}
use Rattle.gpu_vulkan.specs.Setup.{lacks_heap, properties_told}
use Rattle.gpu_machine.proofs.vulkan.told.has_heaps.Given as goal

abbrev pub invariant-loop-info : goal.invariant-loop-info
invariant-loop-info l = (granularity : ℕ) → list_any (lacks_heap (properties_told l.types l.heaps granularity)) (take l.info-index l.types) ≡ false
