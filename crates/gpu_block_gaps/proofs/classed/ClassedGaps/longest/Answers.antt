use Rattle.std.proofs.Common.{◌<◌, ◌≤◌, ℕ, List, length, get_or, sym, ap, subst, arith}
use Rattle.std.proofs.lemmas.List.{get_or_past}
use Rattle.gpu_block_gaps.specs.declared.index.Gap.{Gap}
use Rattle.gpu_block_gaps.specs.Index.{Index, HasLength}
use Rattle.gpu_block_gaps.specs.Ordered.{gaps_of}
use Rattle.gpu_block_gaps.proofs.Surface.{no_gap, last_in, longest_bound, longest_there}
use Rattle.gpu_block_gaps.proofs.classed.ClassedGaps.longest.Goals as goal

pub gap-requires : goal.gap-requires
gap-requires c =
    let t = c.self.inside.thread in
    let at = c.prev-last.ensures (length t.order) (omega arith) (sym (get_or_past t.order (length t.order) 0 (omega arith))) in
    let last = last_in t c.self.inside.forest c.self.invariant.0.0 c.self.invariant.0.1 c.prev-last.result at (λ none. absurd (let h = c.if-last-eq0.false in omega arith)) in
    (c.sound.ensures.inside c.prev-last.result (last.0, (let a = last.1 in omega arith), last.2)).1

pub returns-then-last-eq0-clause-bound : goal.returns-then-last-eq0-clause-bound
returns-then-last-eq0-clause-bound c = λ k d lt.
    let t = c.self.inside.thread in
    let at = c.prev-last.ensures (length t.order) (omega arith) (sym (get_or_past t.order (length t.order) 0 (omega arith))) in
    let none = no_gap t c.self.inside.forest c.self.invariant.0.0 c.self.invariant.0.1 c.prev-last.result at (λ s is. (c.sound.ensures.inside s is).0) c.if-last-eq0.true in
    let seen = ap (λ (x : Index). length x.gaps) c.self.view_is in
    absurd (omega arith)

pub returns-clause-bound : goal.returns-clause-bound
returns-clause-bound c =
    let t = c.self.inside.thread in
    let at = c.prev-last.ensures (length t.order) (omega arith) (sym (get_or_past t.order (length t.order) 0 (omega arith))) in
    let bound = longest_bound t c.self.inside.forest c.self.invariant.0.0 c.self.invariant.0.1 c.prev-last.result at (λ none. absurd (let h = c.if-last-eq0.false in omega arith)) in
    subst (λ (gs : List Gap). (k : ℕ) (d : Gap) → k < length gs → (get_or gs k d).length ≤ c.gap.result.length) (ap (λ (x : Index). x.gaps) c.self.view_is)
    (λ k d lt. subst (λ (a : Gap). (get_or (gaps_of t) k d).length ≤ a.length) (sym c.gap.ensures) (bound k d lt))

pub returns-clause-reached : goal.returns-clause-reached
returns-clause-reached c = λ some.
    let t = c.self.inside.thread in
    let at = c.prev-last.ensures (length t.order) (omega arith) (sym (get_or_past t.order (length t.order) 0 (omega arith))) in
    subst (λ (gs : List Gap). HasLength gs c.gap.result.length) (ap (λ (x : Index). x.gaps) c.self.view_is)
    (subst (λ (a : Gap). HasLength (gaps_of t) a.length) (sym c.gap.ensures)
    (longest_there t c.self.inside.forest c.self.invariant.0.0 c.self.invariant.0.1 c.prev-last.result at (λ none. absurd (let h = c.if-last-eq0.false in omega arith))))
