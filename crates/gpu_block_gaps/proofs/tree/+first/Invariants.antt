use Rattle.std.specs.List.{slice_get}
use Rattle.gpu_block_gaps.proofs.Trees.{rank}
use Rattle.gpu_block_gaps.proofs.tree.+first.Given as goal

abbrev pub decreases-first : goal.decreases-first
decreases-first l = rank (slice_get l.forks.now.items) l.node
