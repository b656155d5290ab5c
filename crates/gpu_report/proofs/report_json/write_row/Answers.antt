use Rattle.std.proofs.Common.{arith}
use Rattle.std.proofs.lemmas.Grind.{common_steps}
use Rattle.gpu_report.specs.ReportJson.{row_json}
use Rattle.gpu_report.proofs.report_json.write_row.Goals as goal

pub returns : goal.returns
unfolding row_json
returns g c = grind (arith, common_steps)
