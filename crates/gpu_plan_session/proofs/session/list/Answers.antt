use Rattle.std.proofs.Common.{arith}
use Rattle.std.proofs.lemmas.Grind.{common_steps}
use Rattle.gpu_plan_session.proofs.session.list.Goals as goal

pub returns-clause-keys : goal.returns-clause-keys
returns-clause-keys c = grind (arith, common_steps)
