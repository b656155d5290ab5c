use Rattle.std.proofs.Common.{◌≡◌, ◌+◌, ◌-◌, ◌%◌, subst, arith}
use Rattle.gpu_ring.specs.RingState.{RingState}
use Rattle.gpu_ring.specs.Stretch.{stretch_of}
use Rattle.gpu_ring.proofs.Places.{first_lap, lap}
use Rattle.gpu_ring.proofs.ring.Ring.current_stretch.Goals as goal
use Rattle.gpu_ring.proofs.ring.Ring.current_stretch.Goals.{then-begin-self, else-begin-self}

offset : (c : goal.After-min-size) → c.if-begin-self.offset ≡ (c.self.inside.tail + c.self.inside.taken - c.self.inside.current.bytes) % c.self.inside.size
offset c =
    let i = c.self.inside in
    let place = i.tail + i.taken - i.current.bytes in
    let low = c.self.invariant.rolled in
    let within = c.self.invariant.within in
    let whole = c.self.invariant.whole in
    elim c.if-begin-self.branch [
      | then-begin-self w ↦ let e = first_lap i.size place (omega arith) in omega arith
      | else-begin-self w ↦ let e = lap i.size place (omega arith) (omega arith) in omega arith
    ]

pub returns : goal.returns
returns c =
    let i = c.self.inside in
    let place = i.tail + i.taken - i.current.bytes in
    let at = offset c in
    let least = c.min-size.ensures in
    let size : c.min-size.result ≡ (stretch_of i.size place i.current.bytes).size = rw (← at) least in
    let rest : i.current.bytes - c.min-size.result ≡ i.current.bytes - (i.size - place % i.size) = omega arith in
    subst (λ (s : RingState). record { offset = c.if-begin-self.offset; size = c.min-size.result; rest = i.current.bytes - c.min-size.result }
    ≡ stretch_of s.size (s.tail + s.taken - s.current.bytes) s.current.bytes) c.self.view_is
    (λ k. record { offset = at k; size = size k; rest = rest k })
