use Rattle.std.specs.List.{slice_get}
use Rattle.gpu_block_gaps.specs.declared.tree.Node.TheVariants.{Branch}
use Rattle.gpu_block_gaps.proofs.Trees.{rank}
use Rattle.gpu_block_gaps.proofs.tree.+insert_below.Given as goal

abbrev pub decreases-insert_below : goal.decreases-insert_below
decreases-insert_below l = rank (slice_get l.forks.now.items) (Branch l.above)
