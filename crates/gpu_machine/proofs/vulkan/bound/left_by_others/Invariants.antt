use Rattle.std.proofs.Common.{◌≡◌, ◌-◌, drop}
use Rattle.gpu_core.specs.Types.{slots_of}
use Rattle.gpu_machine.proofs.VulkanBounds.{others_from}
use Rattle.gpu_machine.proofs.vulkan.bound.left_by_others.Given as goal

abbrev pub invariant-loop-info : goal.invariant-loop-info
invariant-loop-info g l = record {
  at : l.other ≡ l.info-index;
  left : l.left - others_from (drop l.info-index l.infos) l.heap l.index l.other (slots_of l.types) ≡ l.limit - others_from l.infos l.heap l.index 0 (slots_of l.types);
}
