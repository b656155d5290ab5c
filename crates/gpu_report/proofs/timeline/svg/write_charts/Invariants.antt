use Rattle.std.specs.Fmt.{HasWritten, IsPlainFormatter}
use Rattle.gpu_report.specs.Timeline.{charts_svg}
use Rattle.gpu_report.proofs.timeline.svg.write_charts.Given as goal

abbrev pub invariant-loop-t : goal.invariant-loop-t
invariant-loop-t g l = IsPlainFormatter l.initial.f → HasWritten g.W.Write.write_str_gives l.initial.f (charts_svg l.samples l.t) l.f
