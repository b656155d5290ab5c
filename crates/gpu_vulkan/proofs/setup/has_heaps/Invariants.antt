use Rattle.std.proofs.Common.{◌≡◌, take, length, false}
use Rattle.std.specs.List.{list_any}
use Rattle.gpu_vulkan.specs.Setup.{lacks_heap}
use Rattle.gpu_vulkan.proofs.setup.has_heaps.Given as goal

abbrev pub invariant-loop-index : goal.invariant-loop-index
invariant-loop-index g l =
    let p = g.D.VulkanDevice.properties l.device in
    record { count : l.index-end ≡ length p.types; none : list_any (lacks_heap p) (take l.index p.types) ≡ false }
