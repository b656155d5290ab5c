use Rattle.std.proofs.Common.{◌≡◌, ◌*◌, take, length, vec_capacity}
use Rattle.gpu_trace_text.specs.Hex.{hex}
use Rattle.gpu_trace_text.proofs.hex.decode.Given as goal

abbrev pub invariant-loop-i : goal.invariant-loop-i
invariant-loop-i l = record {
  spelled : take (2 * l.i) l.text ≡ hex l.bytes.items;
  count : length l.bytes.items ≡ l.i;
  room : vec_capacity l.bytes ≡ l.count;
}
