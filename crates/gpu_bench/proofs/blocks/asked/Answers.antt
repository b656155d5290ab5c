use Rattle.std.proofs.Common.{refl}
use Rattle.gpu_bench.proofs.blocks.asked.Goals as goal

-- one is a power of two
pub returns-clause-alignment : goal.returns-clause-alignment
unfolding lib.Count.ones
returns-clause-alignment c = refl
