use Rattle.std.proofs.Common.{arith}
use Rattle.std.proofs.lemmas.Grind.{common_steps}
use Rattle.gpu_report.specs.ReportSvg.{row_bar_svg}
use Rattle.gpu_report.proofs.report_svg.write_bar.Goals as goal

pub returns : goal.returns
unfolding row_bar_svg
returns g c = grind (arith, common_steps)
