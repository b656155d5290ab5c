-- What a source ends as, once a slice of a block's bytes that was lent to be written has ended.
use Rattle.std.specs.Prelude.{ℕ, List}
use Rattle.std.specs.Borrow.{Lends, Fml, RattleType, MutBor, Array, u8}
use Rattle.gpu_device.specs.declared.vulkan.device.VulkanDevice.{Ghosts}
use Rattle.gpu_vulkan.specs.Source.{SourceState, with_written}
use Rattle.gpu_vulkan.specs.contracts.source.VulkanBlocks.{the_row}

-- what the slice then holds is written at its place
abbrev pub lends_range : (D : RattleType) (g : Ghosts D.Denot) → MutBor (SourceState D.Denot) → (number start : ℕ) → MutBor (List ℕ) → Fml
lends_range D g s number start r = Lends (the_row D g) (Array u8 0) s r (with_written g s.now number start)
