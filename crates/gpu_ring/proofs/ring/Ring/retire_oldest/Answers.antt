use Rattle.std.proofs.Common.{◌≡◌, ◌+◌, ◌-◌, ◌%◌, ◌<◌, ◌≤◌, take, sym, subst, arith, rules}
use Rattle.std.proofs.lemmas.Grind.{common_steps}
use Rattle.gpu_ring.specs.RingState.{RingState, bytes_of}
use Rattle.gpu_ring.proofs.Places.{first_lap, lap}
use Rattle.gpu_ring.proofs.ring.Ring.retire_oldest.Goals as goal
use Rattle.gpu_ring.proofs.ring.Ring.retire_oldest.Goals.{then-self-eq0, else-self-eq0+then-tail-self, else-self-eq0+else-tail-self}

pub returns-clause-tail : goal.returns-clause-tail
returns-clause-tail c =
    let r = c.self.inside in
    let bytes = c.in-Some.frame.bytes in
    let same : bytes ≡ bytes_of (take 1 r.frames.items) = first_of (search rules, grind (arith, common_steps)) in
    let within : bytes ≤ r.taken = grind (arith, common_steps) in
    let small = c.self.invariant.within in
    let low = c.self.invariant.rolled in
    subst (λ (s : RingState). 0 < r.taken - bytes → c.if-self-eq0.self ≡ (s.tail + bytes_of (take 1 s.frames)) % s.size) c.self.view_is
    (λ some. elim c.if-self-eq0.branch [
      | then-self-eq0 w ↦ absurd (omega arith)
      | else-self-eq0+then-tail-self w ↦ rw (w.self-is, ← same) (sym (first_lap r.size (r.tail + bytes) w.if-tail-self.true))
      | else-self-eq0+else-tail-self w ↦ rw (w.self-is, ← same) (sym (lap r.size (r.tail + bytes) w.if-tail-self.false (omega arith)))
    ])
