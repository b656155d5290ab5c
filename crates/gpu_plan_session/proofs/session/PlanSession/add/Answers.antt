use Rattle.std.proofs.Common.{rules}
use Rattle.gpu_plan_session.proofs.session.PlanSession.add.Goals as goal

pub returns-then-contains : goal.returns-then-contains
returns-then-contains c = search rules

pub returns-then-not-is_allowed : goal.returns-then-not-is_allowed
returns-then-not-is_allowed c = search rules
