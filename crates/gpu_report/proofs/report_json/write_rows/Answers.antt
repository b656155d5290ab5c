use Rattle.std.proofs.Common.{arith}
use Rattle.std.proofs.lemmas.Grind.{common_steps}
use Rattle.gpu_report.proofs.report_json.write_rows.Goals as goal

pub returns-in_default : goal.returns-in_default
returns-in_default g c = grind (arith, common_steps)

pub loop-row-preserved : goal.loop-row-preserved
loop-row-preserved g c = grind (arith, common_steps)

pub returns : goal.returns
returns g c = grind (arith, common_steps)
