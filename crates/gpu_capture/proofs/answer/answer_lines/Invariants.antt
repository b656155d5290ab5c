use Rattle.std.proofs.Common.{◌≡◌, ◌++◌, ◌+◌, drop, string_bytes}
use Rattle.gpu_capture.specs.Answers.{answer_lines}
use Rattle.gpu_capture.proofs.answer.answer_lines.Given as goal

abbrev pub invariant-loop-answer : goal.invariant-loop-answer
invariant-loop-answer l = record {
  counted : l.question ≡ l.before + l.answer-index;
  written : string_bytes l.lines ++ answer_lines l.question (drop l.answer-index l.answers) ≡ answer_lines l.before l.answers;
}
