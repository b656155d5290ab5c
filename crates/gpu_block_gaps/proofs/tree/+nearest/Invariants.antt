use Rattle.std.specs.List.{slice_get}
use Rattle.gpu_block_gaps.proofs.Trees.{rank}
use Rattle.gpu_block_gaps.proofs.tree.+nearest.Given as goal

abbrev pub decreases-nearest : goal.decreases-nearest
decreases-nearest l = rank (slice_get l.forks.now.items) l.node
