use Rattle.std.proofs.Common.{◌≡◌, ◌-◌, take}
use Rattle.gpu_core.specs.Blocks.{slots_at}
use Rattle.gpu_core.specs.Types.{slots_of}
use Rattle.gpu_machine.specs.VulkanBlockCount.{blocks_of}
use Rattle.gpu_machine.proofs.vulkan.block_count.left_behind.Given as goal

abbrev pub invariant-loop-slot : goal.invariant-loop-slot
invariant-loop-slot g l = l.left ≡ l.count - blocks_of (take l.slot (slots_at (slots_of l.types) l.index))
