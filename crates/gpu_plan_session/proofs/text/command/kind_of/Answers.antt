use Rattle.std.proofs.Common.{rules}
use Rattle.gpu_plan_session.proofs.text.command.kind_of.Goals as goal

pub returns-in-linear : goal.returns-in-linear
returns-in-linear c = search rules
