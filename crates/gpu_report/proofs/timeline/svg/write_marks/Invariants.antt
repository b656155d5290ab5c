use Rattle.std.specs.Fmt.{HasWritten, IsPlainFormatter}
use Rattle.gpu_report.specs.Timeline.{marks_svg}
use Rattle.gpu_report.proofs.timeline.svg.write_marks.Given as goal

abbrev pub invariant-loop-j : goal.invariant-loop-j
invariant-loop-j g l = IsPlainFormatter l.initial.f → HasWritten g.W.Write.write_str_gives l.initial.f (marks_svg l.count l.samples l.j) l.f
