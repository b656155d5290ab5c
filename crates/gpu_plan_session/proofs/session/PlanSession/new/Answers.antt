use Rattle.std.proofs.Common.{rules}
use Rattle.gpu_plan_session.proofs.session.PlanSession.new.Goals as goal

pub returns : goal.returns
returns c = search rules
