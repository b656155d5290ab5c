use Rattle.std.proofs.Common.{IsUtf8}
use Rattle.std.specs.Str.Iter.{chars_rest}
use Rattle.gpu_report.specs.Escape.{escaped}
use Rattle.gpu_report.proofs.Writing.{WritesBefore}
use Rattle.gpu_report.proofs.escape.write_escaped.Given as goal

abbrev pub invariant-loop-c : goal.invariant-loop-c
invariant-loop-c g l = IsUtf8 (chars_rest l.c-iterator) × WritesBefore g.W.Write.write_str_gives l.initial.f l.f (escaped l.form (chars_rest l.c-iterator)) (escaped l.form l.fn.text)
