use Rattle.std.proofs.Common.{◌≡◌, ◌+◌, ◌≤◌, length, Option, Some, Bor, sym, ap, subst, ◌∙◌, arith}
use Rattle.std.specs.List.{slice_get}
use Rattle.std.specs.Option.{MatchOption}
use Rattle.gpu_block_gaps.specs.declared.index.Gap.{Gap}
use Rattle.gpu_block_gaps.specs.declared.thread.Record.{Record}
use Rattle.gpu_block_gaps.specs.Scan.{Scanned, place_in}
use Rattle.gpu_block_gaps.specs.Ordered.{gaps_of}
use Rattle.gpu_block_gaps.specs.Last.{gap_if, with_last, passed, IsLeft}
use Rattle.gpu_block_gaps.proofs.Surface.{place_is}
use Rattle.gpu_block_gaps.proofs.Scanning.{GoesOn, given_in_class, one_left, goes_on_in_class}
use Rattle.gpu_block_gaps.proofs.scan.Scan.next_in_class.Goals.{After-gap}
use Rattle.gpu_block_gaps.proofs.scan.Scan.next_in_class.Goals as goal

pub returns-in_err-next-clause-gap : goal.returns-in_err-next-clause-gap
returns-in_err-next-clause-gap c =
    let t = c.self.inside.thread.now in
    let at = c.self.invariant.0 in
    let here = place_is t.order c.self.inside.slot at.0 c.sound.ensures.distinct (λ s is. (c.sound.ensures.inside s is).0) at.1 at.2 in
    let left = subst (λ p. IsLeft (gaps_of t) p (gap_if c.self.inside.last.now) c.self.inside.pending) here c.self.invariant.1 in
    let few = one_left (λ (r : Bor Record). r.now) t at.0 at.1 c.self.inside.last.now c.self.inside.pending left c.record_at.result c.in_err-next.was (c.record_at.ensures at.0 at.1 at.2) in
    let long = ap (λ (s : Scanned). length s.gaps) c.self.view_is in
    let seen = ap (λ (s : Scanned). s.place) c.self.view_is in
    let most : length c.args.self.now.gaps ≤ c.args.self.now.place + 1 = omega arith in
    subst (λ (o : Option Gap). MatchOption o (length c.args.self.now.gaps ≤ c.args.self.now.place + 1) (λ g. Some g ≡ slice_get c.args.self.now.gaps c.args.self.now.place)) (sym c.from_residual.ensures) most

on : (c : After-gap) → GoesOn c.self.inside.thread.now c.self.inside.last.now c.next-self-inside.result c.self.inside.pending (c.self.invariant.0.0 + passed (gap_if c.self.inside.last.now) c.self.inside.pending)
on c =
    let t = c.self.inside.thread.now in
    let at = c.self.invariant.0 in
    let here = place_is t.order c.self.inside.slot at.0 c.sound.ensures.distinct (λ s is. (c.sound.ensures.inside s is).0) at.1 at.2 in
    let left = subst (λ p. IsLeft (gaps_of t) p (gap_if c.self.inside.last.now) c.self.inside.pending) here c.self.invariant.1 in
    goes_on_in_class (λ (r : Bor Record). r.now) t at.0 at.1 c.self.inside.last.now c.self.inside.pending left c.record_at.result c.in_ok-next.next c.next-self-inside.result
    c.in_ok-next.was (c.record_at.ensures at.0 at.1 at.2) c.next-self-inside.ensures.is

stands : (c : After-gap) → place_in c.next-self-inside.result c.self.inside.thread.now.order ≡ (on c).place
stands c = place_is c.self.inside.thread.now.order c.next-self-inside.result (on c).place c.sound.ensures.distinct (λ s is. (c.sound.ensures.inside s is).0) (on c).within (on c).at

pub invariant_of-self : goal.invariant_of-self
invariant_of-self c = (
  ((on c).place, (on c).within, (on c).at),
  subst (λ p. IsLeft (gaps_of c.self.inside.thread.now) p (gap_if c.self.inside.last.now) c.self.inside.pending) (sym (stands c)) (on c).left,
)

pub returns-clause-gap : goal.returns-clause-gap
returns-clause-gap c =
    let t = c.self.inside.thread.now in
    let at = c.self.invariant.0 in
    let here = place_is t.order c.self.inside.slot at.0 c.sound.ensures.distinct (λ s is. (c.sound.ensures.inside s is).0) at.1 at.2 in
    let left = subst (λ p. IsLeft (gaps_of t) p (gap_if c.self.inside.last.now) c.self.inside.pending) here c.self.invariant.1 in
    ap (λ (g : Gap). Some g) c.gap.ensures
    ∙ sym (ap (λ (s : Scanned). slice_get s.gaps s.place) (sym c.self.view_is) ∙ ap (λ p. slice_get (with_last (gaps_of t) (gap_if c.self.inside.last.now)) (p + passed (gap_if c.self.inside.last.now) c.self.inside.pending)) here
    ∙ given_in_class (λ (r : Bor Record). r.now) t at.0 at.1 c.self.inside.last.now c.self.inside.pending left c.record_at.result c.in_ok-next.next c.in_ok-next.was (c.record_at.ensures at.0 at.1 at.2))

pub returns-clause-place : goal.returns-clause-place
returns-clause-place c =
    let t = c.self.inside.thread.now in
    let at = c.self.invariant.0 in
    let here = place_is t.order c.self.inside.slot at.0 c.sound.ensures.distinct (λ s is. (c.sound.ensures.inside s is).0) at.1 at.2 in
    let there = stands c in
    let one = (on c).one in
    let seen = ap (λ (s : Scanned). s.place) c.self.view_is in
    omega arith
