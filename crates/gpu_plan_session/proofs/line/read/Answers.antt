use Rattle.std.proofs.Common.{rules}
use Rattle.gpu_plan_session.proofs.line.read.Goals as goal

pub returns-in-empty : goal.returns-in-empty
returns-in-empty c = search rules
