use Rattle.std.proofs.Common.{arith}
use Rattle.std.proofs.lemmas.Grind.{common_steps}
use Rattle.gpu_plan_session.proofs.text.reply.write_place.Goals as goal

pub returns : goal.returns
returns g c = grind (arith, common_steps)
