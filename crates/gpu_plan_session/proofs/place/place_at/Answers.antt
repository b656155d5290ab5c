use Rattle.std.proofs.Common.{arith}
use Rattle.std.proofs.lemmas.Grind.{common_steps}
use Rattle.gpu_plan_session.proofs.Placing.{found_below}
use Rattle.gpu_plan_session.proofs.place.place_at.Goals as goal

pub keys_at-requires : goal.keys_at-requires
keys_at-requires c = rw c.deref.ensures.value (found_below c.args.listed.now c.args.resources.now c.args.plan.now.offsets.items c.args.index c.in_ok-reused.reused.items c.requires.resources c.in_ok-reused.ensures)

pub returns-clause-offset : goal.returns-clause-offset
returns-clause-offset c = grind (arith, common_steps)

pub returns-clause-place : goal.returns-clause-place
returns-clause-place c = grind (arith, common_steps)
