use Rattle.std.proofs.Common.{◌≡◌, ◌+◌, ◌-◌, ◌%◌, ◌<◌, ◌≤◌, ◌∙◌, take, drop, take-add, ap, subst, arith, rules}
use Rattle.std.proofs.lemmas.List.{drop-drop}
use Rattle.std.proofs.lemmas.List.Sums.{sum_by-append}
use Rattle.gpu_ring.specs.RingState.{RingState, bytes_of}
use Rattle.gpu_ring.specs.declared.ring.FrameStatistics.{FrameStatistics}
use Rattle.gpu_ring.proofs.Places.{kept, tail_twice}
use Rattle.gpu_ring.proofs.ring.Ring.retire.Goals as goal

pub returns-clause-kept : goal.returns-clause-kept
returns-clause-kept c = λ _ q m some taken past.
    let r = c.args.self.now in
    let rolled : r.tail < r.size = subst (λ (s : RingState). s.tail < s.size) c.self.view_is c.self.invariant.rolled in
    let within : r.taken ≤ r.size = subst (λ (s : RingState). s.taken ≤ s.size) c.self.view_is c.self.invariant.within in
    let first = ap (λ (s : RingState). s.first) c.self.view_is in
    let n : c.args.frame.number + 1 - c.args.self.now.first ≡ c.loop.counter = omega arith in
    rw c.loop.invariant.size
    (kept r.size r.tail r.taken (bytes_of (take c.loop.counter r.frames)) c.loop.self.tail c.loop.self.taken q m some rolled within taken (rw n at past) c.loop.invariant.freed c.loop.invariant.tail)

pub loop-preserved : goal.loop-preserved
loop-preserved c =
    let r = c.args.self.now in
    let l = c.loop.self in
    let new = c.retire_oldest.new.self in
    let k = c.loop.counter in
    let frames = c.loop.invariant.frames in
    let given = c.retire_oldest.ensures.taken in
    let more : bytes_of (take (k + 1) r.frames) ≡ bytes_of (take k r.frames) + bytes_of (take 1 (drop k r.frames)) =
    ap (λ xs. bytes_of xs) (take-add k 1 r.frames) ∙ sum_by-append (λ (f : FrameStatistics). f.bytes) (take k r.frames) (take 1 (drop k r.frames)) in
    let one : bytes_of (take 1 l.frames) ≡ bytes_of (take 1 (drop k r.frames)) = ap (λ xs. bytes_of (take 1 xs)) frames in
    let freed : new.taken + bytes_of (take (k + 1) r.frames) ≡ r.taken = let was = c.loop.invariant.freed in omega (arith, more, one, given, was) in
    record {
      frames = c.retire_oldest.ensures.frames ∙ (ap (λ xs. drop 1 xs) frames ∙ drop-drop 1 k r.frames);
      freed = freed;
      tail = λ some.
          let t = c.retire_oldest.ensures.tail some in
          let before : l.tail ≡ (r.tail + bytes_of (take k r.frames)) % r.size = c.loop.invariant.tail (omega arith) in
          let size = c.loop.invariant.size in
          let e : new.tail ≡ ((r.tail + bytes_of (take k r.frames)) % r.size + bytes_of (take 1 l.frames)) % r.size = cc in
          let was = c.loop.invariant.freed in
          tail_twice r.size r.tail (bytes_of (take k r.frames)) (bytes_of (take 1 l.frames)) (bytes_of (take (k + 1) r.frames)) new.tail e (omega (arith, more, one));
      emptied = c.retire_oldest.ensures.emptied;
      first = first_of (search rules, omega arith);
      size = first_of (search rules, cc);
      current = first_of (search rules, cc);
      room = first_of (search rules, cc);
    }
