use Rattle.std.proofs.Common.{arith}
use Rattle.std.proofs.lemmas.Grind.{common_steps}
use Rattle.gpu_report.specs.ReportSvg.{report_line}
use Rattle.gpu_report.proofs.report_svg.write_line.Goals as goal

pub returns : goal.returns
unfolding report_line
returns g c = grind (arith, common_steps)
