use Rattle.std.proofs.Common.{arith}
use Rattle.std.proofs.lemmas.Grind.{common_steps}
use Rattle.gpu_report.proofs.plan_svg.write_resources.Goals as goal

pub loop-view-preserved : goal.loop-view-preserved
loop-view-preserved g c = grind (arith, common_steps)

pub returns : goal.returns
returns g c = grind (arith, common_steps)
