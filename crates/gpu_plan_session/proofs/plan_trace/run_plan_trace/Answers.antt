use Rattle.std.proofs.Common.{rules}
use Rattle.gpu_plan_session.proofs.plan_trace.run_plan_trace.Goals as goal

pub returns-clause-whole : goal.returns-clause-whole
returns-clause-whole g c = search rules
