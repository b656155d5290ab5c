use Rattle.std.specs.List.{slice_get}
use Rattle.gpu_block_gaps.specs.declared.tree.Node.TheVariants.{Branch}
use Rattle.gpu_block_gaps.proofs.Trees.{rank}
use Rattle.gpu_block_gaps.proofs.tree.+remove_below.Given as goal

abbrev pub decreases-remove_below : goal.decreases-remove_below
decreases-remove_below l = rank (slice_get l.forks.now.items) (Branch l.slot)
