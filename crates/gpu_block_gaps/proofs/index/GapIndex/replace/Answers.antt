use Rattle.std.proofs.Common.{List, ap, sym, subst}
use Rattle.std.specs.List.{AllPairs}
use Rattle.gpu_block_gaps.specs.declared.index.Gap.{Gap}
use Rattle.gpu_block_gaps.specs.Index.{Before, Index, HasKeyAt, IsRemoved, IsReplaced}
use Rattle.gpu_block_gaps.specs.Last.{gap_if, with_last}
use Rattle.gpu_block_gaps.proofs.Lasts.{in_order, key_of_others, fresh_others, gone_others, replaced_others, stays_other, behind_replaced}
use Rattle.gpu_block_gaps.proofs.index.GapIndex.replace.Goals as goal

pub replace-requires-clause-there : goal.replace-requires-clause-there
replace-requires-clause-there c =
    key_of_others c.self.inside.classed.gaps c.args.size c.args.start (gap_if c.self.inside.last)
    (subst (λ (gs : List Gap). HasKeyAt gs c.args.size c.args.start) (sym (ap (λ (x : Index). x.gaps) c.self.view_is)) c.requires.there)
    (stays_other c.args.size c.args.start c.args.gap (gap_if c.self.inside.last) (c.stays_last.ensures.0 c.if-stays_last.true))

pub replace-requires-clause-fresh : goal.replace-requires-clause-fresh
replace-requires-clause-fresh c = λ rest gone.
    fresh_others rest c.args.gap.length c.args.gap.start (gap_if c.self.inside.last)
    (c.requires.fresh (with_last rest (gap_if c.self.inside.last))
    (subst (λ (gs : List Gap). IsRemoved gs c.args.size c.args.start (with_last rest (gap_if c.self.inside.last))) (ap (λ (x : Index). x.gaps) c.self.view_is)
    (gone_others c.self.inside.classed.gaps rest c.args.size c.args.start (gap_if c.self.inside.last) gone)))

pub invariant_of-self : goal.invariant_of-self
invariant_of-self c =
    behind_replaced c.self.inside.classed.gaps c.replace.new.self.gaps c.args.size c.args.start c.args.gap c.self.inside.classed.room c.replace.new.self.room (gap_if c.self.inside.last) c.replace.ensures.gaps c.replace.ensures.room
    (c.stays_last.ensures.0 c.if-stays_last.true) c.self.invariant

pub returns-then-stays_last-clause-gaps : goal.returns-then-stays_last-clause-gaps
returns-then-stays_last-clause-gaps c =
    subst (λ (gs : List Gap). IsReplaced gs c.args.size c.args.start c.args.gap (with_last c.replace.new.self.gaps (gap_if c.self.inside.last))) (ap (λ (x : Index). x.gaps) c.self.view_is)
    (replaced_others c.self.inside.classed.gaps c.replace.new.self.gaps c.args.size c.args.start c.args.gap (gap_if c.self.inside.last) c.replace.ensures.gaps)

pub returns-then-stays_last-clause-ordered : goal.returns-then-stays_last-clause-ordered
returns-then-stays_last-clause-ordered c = subst (λ (gs : List Gap). AllPairs Before gs) (ap (λ (x : Index). x.gaps) c.self.view_is) (in_order c.self.inside.classed.gaps c.self.inside.classed.room (gap_if c.self.inside.last) c.in_order.ensures c.self.invariant)
