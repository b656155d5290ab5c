use Rattle.std.proofs.Common.{rules}
use Rattle.gpu_plan_session.proofs.session.number_of.Goals as goal

pub returns-in-TooLarge : goal.returns-in-TooLarge
returns-in-TooLarge c = search rules

pub returns-in-HostOutOfMemory : goal.returns-in-HostOutOfMemory
returns-in-HostOutOfMemory c = search rules
