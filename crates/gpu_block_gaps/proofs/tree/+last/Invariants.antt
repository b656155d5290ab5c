use Rattle.std.specs.List.{slice_get}
use Rattle.gpu_block_gaps.proofs.Trees.{rank}
use Rattle.gpu_block_gaps.proofs.tree.+last.Given as goal

abbrev pub decreases-last : goal.decreases-last
decreases-last l = rank (slice_get l.forks.now.items) l.node
