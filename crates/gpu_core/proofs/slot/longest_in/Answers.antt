use Rattle.gpu_block.specs.SubAllocator.{block_of}
use Rattle.gpu_core.proofs.Noted.{placeless_block}
use Rattle.gpu_core.proofs.slot.longest_in.Goals as goal

pub returns-in-Some : goal.returns-in-Some
returns-in-Some g c = rw c.in-Some.is (λ r more. placeless_block (block_of c.in-Some.block.sub) r (c.longest_gap.ensures.law r more))
