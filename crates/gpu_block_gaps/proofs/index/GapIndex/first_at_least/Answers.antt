use Rattle.std.proofs.Common.{length, ap, ◌∙◌, arith}
use Rattle.gpu_cost.specs.Cost.{digits}
use Rattle.gpu_block_gaps.specs.Index.{Index}
use Rattle.gpu_block_gaps.specs.Last.{gap_if}
use Rattle.gpu_block_gaps.proofs.Lasts.{few_compared}
use Rattle.gpu_block_gaps.proofs.index.GapIndex.first_at_least.Goals as goal

pub returns-clause-counted : goal.returns-clause-counted
returns-clause-counted c =
    let few = few_compared c.self.inside.classed.gaps (gap_if c.self.inside.last) in
    let seen = ap (λ (x : Index). digits (length x.gaps)) c.self.view_is in
    let compared = c.first_at_least-from.ensures.compared in
    let others = c.first_at_least-from.ensures.others in
    let counted = c.is_last_long-pending.ensures.counted in
    let one = counted.comparisons in
    let low = compared.0 in
    let high = compared.1 in
    record {
      rises = omega arith;
      to = omega arith;
      tests = counted.tests ∙ others.0;
      lookups = counted.lookups ∙ others.1;
    }
