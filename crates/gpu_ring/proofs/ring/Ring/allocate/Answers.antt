use Rattle.std.proofs.Common.{◌≡◌, ◌+◌, ◌-◌, ◌%◌, ◌<◌, ℕ, arith, sym, subst}
use Rattle.std.specs.VecDeque.{deque_capacity}
use Rattle.gpu_ring.specs.Calls.{Places, with_piece}
use Rattle.gpu_ring.specs.Line.{IsTaken, Apart}
use Rattle.gpu_ring.specs.RingState.{RingState}
use Rattle.gpu_ring.proofs.Places.{offset_low, offset_high}
use Rattle.gpu_ring.proofs.ring.Ring.allocate.Goals as goal
use Rattle.gpu_ring.proofs.ring.Ring.allocate.Goals.{Joined-place-self, then-place-self, else-place-self}

offset : (c : Joined-place-self) → c.if-place-self.result ≡ c.in_ok-place.place % c.self.inside.size
offset c =
    let ring = c.self.inside.size in
    let p = c.in_ok-place.place in
    let served = c.in_ok-place.ensures.place in
    let room = served.room in
    let low = c.self.invariant.rolled in
    let sized = c.requires.sized in
    elim c.if-place-self.branch [
      | then-place-self w ↦ offset_low ring p c.if-place-self.result w.if-place-self.true w.result-is
      | else-place-self w ↦ offset_high ring p c.if-place-self.result w.if-place-self.false (omega arith) w.result-is
    ]

pub returns-clause-allocates : goal.returns-clause-allocates
returns-clause-allocates c =
    let i = c.self.inside in
    let a = c.args in
    let p = c.in_ok-place.place in
    let served = c.in_ok-place.ensures.place in
    let after = served.next.begins.after in
    let taken : i.taken + (p + a.size - (i.tail + i.taken)) ≡ p + a.size - i.tail = omega arith in
    let more = p + a.size - (i.tail + i.taken) in
    let new : RingState = record {
      size = i.size;
      tail = i.tail;
      taken = i.taken + more;
      first = i.first;
      frames = i.frames.items;
      current = with_piece i.current more;
      room = deque_capacity i.frames;
    } in
    subst (λ (s : RingState). Places s a.size a.alignment c.if-place-self.result new) c.self.view_is
    (record {
      place = p;
      served = served;
      offset_is = offset (goal.at.returns-clause-allocates c).Joined-place-self;
      state = λ k. record {
        size = i.size;
        tail = i.tail;
        taken = taken k;
        first = i.first;
        frames = i.frames.items;
        current = with_piece i.current more;
        room = deque_capacity i.frames;
      };
    })

pub returns-clause-apart : goal.returns-clause-apart
returns-clause-apart c =
    let a = c.args in
    let at = offset (goal.at.returns-clause-apart c).Joined-place-self in
    subst (λ (s : RingState). (q m : ℕ) → 0 < m → IsTaken s.size s.tail s.taken q m → Apart (q % s.size) m c.if-place-self.result a.size) c.self.view_is
    (λ q m some taken. subst (λ o. Apart (q % c.self.inside.size) m o a.size) (sym at) (c.in_ok-place.ensures.apart q m some taken))
