use Rattle.std.proofs.Common.{◌≡◌, List, length, sym, ap, subst, arith}
use Rattle.std.proofs.lemmas.List.{get_or_past}
use Rattle.gpu_block_gaps.specs.declared.index.Gap.{Gap}
use Rattle.gpu_block_gaps.specs.Index.{Before, Index}
use Rattle.gpu_block_gaps.specs.Last.{AreBefore}
use Rattle.gpu_block_gaps.proofs.Surface.{no_gap, last_in}
use Rattle.gpu_block_gaps.proofs.Moving.{none_tested}
use Rattle.gpu_block_gaps.proofs.Lasts.{all_by_last, last_by_all}
use Rattle.gpu_block_gaps.proofs.classed.ClassedGaps.are_before.Goals as goal

pub gap-requires : goal.gap-requires
gap-requires c =
    let t = c.self.inside.thread in
    let at = c.prev-last.ensures (length t.order) (omega arith) (sym (get_or_past t.order (length t.order) 0 (omega arith))) in
    let last = last_in t c.self.inside.forest c.self.invariant.0.0 c.self.invariant.0.1 c.prev-last.result at (λ none. absurd (let h = c.if-last-eq0.false in omega arith)) in
    (c.sound.ensures.inside c.prev-last.result (last.0, (let a = last.1 in omega arith), last.2)).1

pub returns-then-last-eq0 : goal.returns-then-last-eq0
returns-then-last-eq0 c =
    let t = c.self.inside.thread in
    let at = c.prev-last.ensures (length t.order) (omega arith) (sym (get_or_past t.order (length t.order) 0 (omega arith))) in
    let none = no_gap t c.self.inside.forest c.self.invariant.0.0 c.self.invariant.0.1 c.prev-last.result at (λ s is. (c.sound.ensures.inside s is).0) c.if-last-eq0.true in
    let seen = ap (λ (x : Index). length x.gaps) c.self.view_is in
    (λ _ k d lt. absurd (omega arith), λ _. none_tested c.prev-last.result c.if-last-eq0.true)

pub returns-else-last-eq0 : goal.returns-else-last-eq0
returns-else-last-eq0 c =
    let t = c.self.inside.thread in
    let at = c.prev-last.ensures (length t.order) (omega arith) (sym (get_or_past t.order (length t.order) 0 (omega arith))) in
    let some : c.prev-last.result ≡ 0 → ⊥ = λ none. absurd (let h = c.if-last-eq0.false in omega arith) in
    let see = ap (λ (x : Index). x.gaps) c.self.view_is in (
      λ yes. subst (λ (gs : List Gap). AreBefore gs c.args.gap) see
          (all_by_last t c.self.inside.forest c.self.invariant.0.0 c.self.invariant.0.1 c.prev-last.result at some c.args.gap (subst (λ (a : Gap). Before a c.args.gap) c.gap.ensures (c.is_before.ensures.0 yes))),
      λ all. c.is_before.ensures.1 (subst (λ (a : Gap). Before a c.args.gap) (sym c.gap.ensures)
          (last_by_all t c.self.inside.forest c.self.invariant.0.0 c.self.invariant.0.1 c.prev-last.result at some c.args.gap (subst (λ (gs : List Gap). AreBefore gs c.args.gap) (sym see) all))),
    )
