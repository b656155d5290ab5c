use Rattle.std.proofs.Common.{List, ap, subst}
use Rattle.std.specs.List.{AllPairs}
use Rattle.gpu_block_gaps.specs.declared.index.Gap.{Gap}
use Rattle.gpu_block_gaps.specs.Index.{Before, Index}
use Rattle.gpu_block_gaps.specs.Last.{gap_if}
use Rattle.gpu_block_gaps.proofs.Lasts.{in_order}
use Rattle.gpu_block_gaps.proofs.index.GapIndex.in_order.Goals as goal

pub returns : goal.returns
returns c = subst (λ (gs : List Gap). AllPairs Before gs) (ap (λ (x : Index). x.gaps) c.self.view_is) (in_order c.self.inside.classed.gaps c.self.inside.classed.room (gap_if c.self.inside.last) c.in_order.ensures c.self.invariant)
