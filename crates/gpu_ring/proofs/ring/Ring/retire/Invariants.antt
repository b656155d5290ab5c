use Rattle.std.proofs.Common.{◌≡◌, ◌+◌, ◌%◌, ◌<◌, drop, take}
use Rattle.gpu_ring.specs.RingState.{bytes_of}
use Rattle.gpu_ring.proofs.ring.Ring.retire.Given as goal

abbrev pub invariant-loop : goal.invariant-loop
invariant-loop l = record {
  frames : l.self.frames ≡ drop l.counter l.initial.self.frames;
  freed : l.self.taken + bytes_of (take l.counter l.initial.self.frames) ≡ l.initial.self.taken;
  tail : 0 < l.self.taken → l.self.tail ≡ (l.initial.self.tail + bytes_of (take l.counter l.initial.self.frames)) % l.initial.self.size;
  emptied : l.self.taken ≡ 0 → l.self.tail ≡ 0;
  first : l.self.first ≡ l.initial.self.first + l.counter;
  size : l.self.size ≡ l.initial.self.size;
  current : l.self.current ≡ l.initial.self.current;
  room : l.self.room ≡ l.initial.self.room;
}
