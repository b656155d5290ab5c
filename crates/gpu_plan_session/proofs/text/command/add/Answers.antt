use Rattle.std.proofs.Common.{arith}
use Rattle.std.proofs.lemmas.Grind.{common_steps}
use Rattle.gpu_plan_session.proofs.PlanReading.{resource_only}
use Rattle.gpu_plan_session.proofs.text.command.add.Goals as goal

pub returns-in_default-described : goal.returns-in_default-described
returns-in_default-described c = resource_only c.args.arguments.now _ c.in_default-described.ensures

pub returns : goal.returns
returns c = grind (arith, common_steps)
