use Rattle.std.specs.Fmt.{HasWritten, IsPlainFormatter}
use Rattle.gpu_report.specs.PlanSvg.{passes_svg}
use Rattle.gpu_report.proofs.plan_svg.write_passes.Given as goal

abbrev pub invariant-loop-pass : goal.invariant-loop-pass
invariant-loop-pass g l = IsPlainFormatter l.initial.f → HasWritten g.W.Write.write_str_gives l.initial.f (passes_svg l.passes l.pass) l.f
