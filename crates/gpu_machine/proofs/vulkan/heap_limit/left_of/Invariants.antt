use Rattle.std.proofs.Common.{◌≡◌, ◌+◌, drop}
use Rattle.gpu_core.specs.Types.{slots_of}
use Rattle.gpu_machine.specs.VulkanHeapLimit.{held_from, held_in}
use Rattle.gpu_machine.proofs.vulkan.heap_limit.left_of.Given as goal

abbrev pub invariant-loop-info : goal.invariant-loop-info
invariant-loop-info g l = record {
  at : l.index ≡ l.info-index;
  sum : held_in l.infos l.heap (slots_of l.types) + l.left ≡ l.limit + held_from (drop l.info-index l.infos) l.heap l.index (slots_of l.types);
}
