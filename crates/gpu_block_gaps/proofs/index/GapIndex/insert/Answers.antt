use Rattle.std.proofs.Common.{◌≡◌, ◌++◌, ◌∷◌, [], length, List, Option, Some, None, ap, sym, subst, arith}
use Rattle.gpu_block_gaps.specs.declared.index.Gap.{Gap}
use Rattle.gpu_block_gaps.specs.Index.{Before, Index, HasNoKey, IsInserted}
use Rattle.gpu_block_gaps.specs.Last.{gap_if, with_last, IsBehind}
use Rattle.gpu_block_gaps.proofs.Lasts.{behind, no_key, put_last, fresh_others, swapped, behind_put, behind_swapped}
use Rattle.gpu_block_gaps.proofs.index.GapIndex.insert.Goals as goal

pub returns-then-are_before-clause-gaps : goal.returns-then-are_before-clause-gaps
returns-then-are_before-clause-gaps c =
    let others = c.self.inside.classed.gaps in
    let none : gap_if c.self.inside.last ≡ None = (let a = c.gap_if.ensures in let b = c.in_default.is in cc) in
    subst (λ (gs : List Gap). IsInserted gs c.args.gap (with_last others (gap_if c.last_of-self-inside.result))) (ap (λ (x : Index). x.gaps) c.self.view_is)
    (subst (λ (o : Option Gap). IsInserted (with_last others o) c.args.gap (with_last others (gap_if c.last_of-self-inside.result))) (sym none)
    (subst (λ (o : Option Gap). IsInserted others c.args.gap (with_last others o)) (sym c.last_of-self-inside.ensures) (put_last others c.args.gap)))

pub insert-requires-then-is_before-clause-fresh : goal.insert-requires-then-is_before-clause-fresh
insert-requires-then-is_before-clause-fresh c =
    fresh_others c.self.inside.classed.gaps c.args.gap.length c.args.gap.start (gap_if c.self.inside.last)
    (subst (λ (gs : List Gap). HasNoKey gs c.args.gap.length c.args.gap.start) (sym (ap (λ (x : Index). x.gaps) c.self.view_is)) c.requires.fresh)

pub invariant_of-self-then-is_before : goal.invariant_of-self-then-is_before
invariant_of-self-then-is_before c =
    let long = ap (λ (x : Index). length x.gaps) c.self.view_is in
    let room = ap (λ (x : Index). x.room) c.self.view_is in
    behind_put c.self.inside.classed.gaps c.insert-then-is_before.new.self.gaps c.args.gap c.self.inside.classed.room c.insert-then-is_before.new.self.room (gap_if c.self.inside.last)
    c.insert-then-is_before.ensures.gaps c.insert-then-is_before.ensures.room (let some = c.requires.room in omega arith)
    (λ g is. let same : c.in-Some.last ≡ g = (let a = c.gap_if.ensures in let b = c.in-Some.is in cc) in subst (λ (a : Gap). Before c.args.gap a) same (c.is_before.ensures.0 c.if-is_before.true)) c.self.invariant

pub invariant_of-self-2 : goal.invariant_of-self-2
invariant_of-self-2 c =
    let others = c.self.inside.classed.gaps in
    let some : gap_if c.self.inside.last ≡ Some c.in-Some.last = (let a = c.gap_if.ensures in let b = c.in-Some.is in cc) in
    let before = subst (λ (o : Option Gap). IsBehind others c.self.inside.classed.room o) some c.self.invariant in
    let fresh = subst (λ (o : Option Gap). HasNoKey (with_last others o) c.args.gap.length c.args.gap.start) some
    (subst (λ (gs : List Gap). HasNoKey gs c.args.gap.length c.args.gap.start) (sym (ap (λ (x : Index). x.gaps) c.self.view_is)) c.requires.fresh) in
    let less : Before c.in-Some.last c.args.gap = behind c.args.gap c.in-Some.last (λ is. absurd (let yes = c.is_before.ensures.1 is in let no = c.if-is_before.false in cc)) (no_key others c.in-Some.last c.args.gap.length c.args.gap.start fresh) in
    let long = ap (λ (x : Index). length x.gaps) c.self.view_is in
    let as_long = ap (λ (o : Option Gap). length (with_last others o)) some in
    let room = ap (λ (x : Index). x.room) c.self.view_is in
    subst (λ (o : Option Gap). IsBehind c.insert-2.new.self.gaps c.insert-2.new.self.room o) (sym c.last_of-self-inside-2.ensures)
    (behind_swapped others c.insert-2.new.self.gaps c.in-Some.last c.args.gap c.self.inside.classed.room c.insert-2.new.self.room c.insert-2.ensures.gaps c.insert-2.ensures.room
    (let left = c.requires.room in omega arith) before.0 less c.in_order.ensures c.in_order-2.ensures)

pub returns-clause-gaps : goal.returns-clause-gaps
returns-clause-gaps c =
    let others = c.self.inside.classed.gaps in
    let some : gap_if c.self.inside.last ≡ Some c.in-Some.last = (let a = c.gap_if.ensures in let b = c.in-Some.is in cc) in
    let before = subst (λ (o : Option Gap). IsBehind others c.self.inside.classed.room o) some c.self.invariant in
    subst (λ (gs : List Gap). IsInserted gs c.args.gap (with_last c.insert-2.new.self.gaps (gap_if c.last_of-self-inside-2.result))) (ap (λ (x : Index). x.gaps) c.self.view_is)
    (subst (λ (o : Option Gap). IsInserted (with_last others o) c.args.gap (with_last c.insert-2.new.self.gaps (gap_if c.last_of-self-inside-2.result))) (sym some)
    (subst (λ (o : Option Gap). IsInserted (others ++ c.in-Some.last ∷ []) c.args.gap (with_last c.insert-2.new.self.gaps o)) (sym c.last_of-self-inside-2.ensures)
    (swapped others c.insert-2.new.self.gaps c.in-Some.last c.args.gap c.in_order.ensures c.in_order-2.ensures before.0 c.insert-2.ensures.gaps)))
