use Rattle.std.proofs.Common.{◌≡◌, ◌≤◌, map, take, length, vec_capacity}
use Rattle.gpu_c.specs.Capture.{answer_told}
use Rattle.gpu_c.proofs.capture.answers_told.Given as goal

abbrev pub invariant-loop-answer : goal.invariant-loop-answer
invariant-loop-answer l = record {
  told_so : l.answers.items ≡ map answer_told (take l.answer-index l.told);
  room : length l.told ≤ vec_capacity l.answers;
}
