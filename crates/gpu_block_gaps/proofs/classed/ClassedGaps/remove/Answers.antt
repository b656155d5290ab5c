use Rattle.std.proofs.Common.{List, ap, subst}
use Rattle.std.specs.List.{AllPairs}
use Rattle.gpu_block_gaps.specs.declared.index.Gap.{Gap}
use Rattle.gpu_block_gaps.specs.Index.{Before, Index}
use Rattle.gpu_block_gaps.proofs.Surface.{gaps_sorted}
use Rattle.gpu_block_gaps.proofs.classed.ClassedGaps.remove.Goals as goal

pub returns-clause-ordered : goal.returns-clause-ordered
returns-clause-ordered c = subst (λ (gs : List Gap). AllPairs Before gs) (ap (λ (x : Index). x.gaps) c.self.view_is) (gaps_sorted c.self.inside.thread c.self.inside.forest c.self.invariant.0.0 c.self.invariant.0.1)
