use Rattle.std.proofs.Common.{arith}
use Rattle.std.proofs.lemmas.Grind.{common_steps}
use Rattle.gpu_report.proofs.view.add_views.Goals as goal

pub loop-slot-preserved : goal.loop-slot-preserved
loop-slot-preserved g c = grind (arith, common_steps)

pub returns-clause-added : goal.returns-clause-added
returns-clause-added g c = grind (arith, common_steps)
