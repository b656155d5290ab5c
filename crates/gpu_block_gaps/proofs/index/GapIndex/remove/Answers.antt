use Rattle.std.proofs.Common.{List, ap, sym, subst}
use Rattle.std.specs.List.{AllPairs}
use Rattle.gpu_block_gaps.specs.declared.index.Gap.{Gap}
use Rattle.gpu_block_gaps.specs.Index.{Before, Index, HasKeyAt, IsRemoved}
use Rattle.gpu_block_gaps.specs.Last.{gap_if}
use Rattle.gpu_block_gaps.proofs.Lasts.{in_order, gone_if_last, key_of_others, behind_gone}
use Rattle.gpu_block_gaps.proofs.index.GapIndex.remove.Goals as goal

pub returns-then-is_last-clause-gaps : goal.returns-then-is_last-clause-gaps
returns-then-is_last-clause-gaps c =
    subst (λ (gs : List Gap). IsRemoved gs c.args.size c.args.start c.self.inside.classed.gaps) (ap (λ (x : Index). x.gaps) c.self.view_is)
    (gone_if_last c.self.inside.classed.gaps c.args.size c.args.start (gap_if c.self.inside.last) (c.is_last.ensures.0 c.if-is_last.true))

pub returns-then-is_last-clause-ordered : goal.returns-then-is_last-clause-ordered
returns-then-is_last-clause-ordered c = subst (λ (gs : List Gap). AllPairs Before gs) (ap (λ (x : Index). x.gaps) c.self.view_is) (in_order c.self.inside.classed.gaps c.self.inside.classed.room (gap_if c.self.inside.last) c.in_order.ensures c.self.invariant)

pub remove-requires : goal.remove-requires
remove-requires c =
    key_of_others c.self.inside.classed.gaps c.args.size c.args.start (gap_if c.self.inside.last)
    (subst (λ (gs : List Gap). HasKeyAt gs c.args.size c.args.start) (sym (ap (λ (x : Index). x.gaps) c.self.view_is)) c.requires) (λ is. absurd (let yes = c.is_last.ensures.1 is in let no = c.if-is_last.false in cc))

pub invariant_of-self-2 : goal.invariant_of-self-2
invariant_of-self-2 c =
    behind_gone c.self.inside.classed.gaps c.remove.new.self.gaps c.args.size c.args.start c.self.inside.classed.room c.remove.new.self.room (gap_if c.self.inside.last) c.remove.ensures.gaps c.remove.ensures.room c.self.invariant

pub returns-clause-ordered : goal.returns-clause-ordered
returns-clause-ordered c = subst (λ (gs : List Gap). AllPairs Before gs) (ap (λ (x : Index). x.gaps) c.self.view_is) (in_order c.self.inside.classed.gaps c.self.inside.classed.room (gap_if c.self.inside.last) c.in_order.ensures c.self.invariant)
