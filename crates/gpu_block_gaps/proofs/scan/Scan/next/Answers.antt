use Rattle.std.proofs.Common.{◌≡◌, ◌+◌, Some, Bor, sym, ap, subst, ◌∙◌, arith}
use Rattle.std.specs.List.{slice_get}
use Rattle.gpu_block_gaps.specs.declared.index.Gap.{Gap}
use Rattle.gpu_block_gaps.specs.declared.thread.Record.{Record}
use Rattle.gpu_block_gaps.specs.Scan.{Scanned, place_in}
use Rattle.gpu_block_gaps.specs.Ordered.{gaps_of}
use Rattle.gpu_block_gaps.specs.Last.{gap_if, with_last, passed, IsLeft}
use Rattle.gpu_block_gaps.proofs.Surface.{place_is}
use Rattle.gpu_block_gaps.proofs.Scanning.{GoesOn, given, none_given, goes_on}
use Rattle.gpu_block_gaps.proofs.scan.Scan.next.Goals.{After-gap}
use Rattle.gpu_block_gaps.proofs.scan.Scan.next.Goals as goal

pub returns-in_err-record-clause-gap : goal.returns-in_err-record-clause-gap
returns-in_err-record-clause-gap c =
    let t = c.self.inside.thread.now in
    let at = c.self.invariant.0 in
    let here = place_is t.order c.self.inside.slot at.0 c.sound.ensures.distinct (λ s is. (c.sound.ensures.inside s is).0) at.1 at.2 in
    let left = subst (λ p. IsLeft (gaps_of t) p (gap_if c.self.inside.last.now) c.self.inside.pending) here c.self.invariant.1 in
    c.from_residual.ensures
    ∙ sym (ap (λ (s : Scanned). slice_get s.gaps s.place) (sym c.self.view_is) ∙ ap (λ p. slice_get (with_last (gaps_of t) (gap_if c.self.inside.last.now)) (p + passed (gap_if c.self.inside.last.now) c.self.inside.pending)) here
    ∙ none_given (λ (r : Bor Record). r.now) t at.0 at.1 c.self.inside.last.now c.self.inside.pending left c.record_at-next.result c.record_or.result c.in_err-record.was (c.record_at-next.ensures at.0 at.1 at.2) c.record_or.ensures)

-- where it goes on
on : (c : After-gap) → GoesOn c.self.inside.thread.now c.self.inside.last.now c.slot_behind-self-inside.result c.is_left-self-inside.result (c.self.invariant.0.0 + passed (gap_if c.self.inside.last.now) c.self.inside.pending)
on c =
    let t = c.self.inside.thread.now in
    let at = c.self.invariant.0 in
    let here = place_is t.order c.self.inside.slot at.0 c.sound.ensures.distinct (λ s is. (c.sound.ensures.inside s is).0) at.1 at.2 in
    let left = subst (λ p. IsLeft (gaps_of t) p (gap_if c.self.inside.last.now) c.self.inside.pending) here c.self.invariant.1 in
    goes_on (λ (r : Bor Record). r.now) t at.0 at.1 c.self.inside.last.now c.self.inside.pending left c.record_at-next.result c.record_or.result c.in_ok-record.record c.slot_behind-self-inside.result c.is_left-self-inside.result
    c.in_ok-record.was (c.record_at-next.ensures at.0 at.1 at.2) c.record_or.ensures c.slot_behind-self-inside.ensures c.is_left-self-inside.ensures

stands : (c : After-gap) → place_in c.slot_behind-self-inside.result c.self.inside.thread.now.order ≡ (on c).place
stands c = place_is c.self.inside.thread.now.order c.slot_behind-self-inside.result (on c).place c.sound.ensures.distinct (λ s is. (c.sound.ensures.inside s is).0) (on c).within (on c).at

pub invariant_of-self : goal.invariant_of-self
invariant_of-self c = (
  ((on c).place, (on c).within, (on c).at),
  subst (λ p. IsLeft (gaps_of c.self.inside.thread.now) p (gap_if c.self.inside.last.now) c.is_left-self-inside.result) (sym (stands c)) (on c).left,
)

pub returns-clause-gap : goal.returns-clause-gap
returns-clause-gap c =
    let t = c.self.inside.thread.now in
    let at = c.self.invariant.0 in
    let here = place_is t.order c.self.inside.slot at.0 c.sound.ensures.distinct (λ s is. (c.sound.ensures.inside s is).0) at.1 at.2 in
    let left = subst (λ p. IsLeft (gaps_of t) p (gap_if c.self.inside.last.now) c.self.inside.pending) here c.self.invariant.1 in
    ap (λ (g : Gap). Some g) c.gap.ensures
    ∙ sym (ap (λ (s : Scanned). slice_get s.gaps s.place) (sym c.self.view_is) ∙ ap (λ p. slice_get (with_last (gaps_of t) (gap_if c.self.inside.last.now)) (p + passed (gap_if c.self.inside.last.now) c.self.inside.pending)) here
    ∙ given (λ (r : Bor Record). r.now) t at.0 at.1 c.self.inside.last.now c.self.inside.pending left c.record_at-next.result c.record_or.result c.in_ok-record.record c.in_ok-record.was (c.record_at-next.ensures at.0 at.1 at.2) c.record_or.ensures)

pub returns-clause-place : goal.returns-clause-place
returns-clause-place c =
    let t = c.self.inside.thread.now in
    let at = c.self.invariant.0 in
    let here = place_is t.order c.self.inside.slot at.0 c.sound.ensures.distinct (λ s is. (c.sound.ensures.inside s is).0) at.1 at.2 in
    let there = stands c in
    let one = (on c).one in
    let seen = ap (λ (s : Scanned). s.place) c.self.view_is in
    omega arith
