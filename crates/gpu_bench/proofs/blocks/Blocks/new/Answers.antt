use Rattle.std.proofs.Common.{refl}
use Rattle.gpu_bench.proofs.blocks.Blocks.new.Goals as goal

-- one byte is a page
pub new-requires : goal.new-requires
unfolding lib.Count.ones
new-requires c = refl
