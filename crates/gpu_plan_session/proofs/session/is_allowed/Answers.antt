use Rattle.std.proofs.Common.{rules}
use Rattle.gpu_plan_session.proofs.session.is_allowed.Goals as goal

pub returns-else-is_power_of_two : goal.returns-else-is_power_of_two
returns-else-is_power_of_two c = search rules
