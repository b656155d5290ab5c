use Rattle.std.proofs.Common.{◌≡◌, ◌-◌, take}
use Rattle.gpu_core.specs.Types.{slots_of}
use Rattle.gpu_machine.specs.VulkanBlockCount.{block_count}
use Rattle.gpu_machine.proofs.vulkan.block_count.has_most.Given as goal

abbrev pub invariant-loop-index : goal.invariant-loop-index
invariant-loop-index g l = l.left ≡ l.most - block_count (take l.index (slots_of l.types))
