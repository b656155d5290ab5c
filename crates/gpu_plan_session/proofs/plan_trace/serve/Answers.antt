use Rattle.std.proofs.Common.{rules}
use Rattle.gpu_plan_session.proofs.plan_trace.serve.Goals as goal

pub returns-in-None : goal.returns-in-None
returns-in-None c = search rules
