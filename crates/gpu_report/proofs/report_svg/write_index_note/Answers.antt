use Rattle.std.proofs.Common.{arith}
use Rattle.std.proofs.lemmas.Grind.{common_steps}
use Rattle.gpu_report.specs.ReportSvg.{index_note}
use Rattle.gpu_report.proofs.report_svg.write_index_note.Goals as goal

pub returns : goal.returns
unfolding index_note
returns g c = grind (arith, common_steps)
