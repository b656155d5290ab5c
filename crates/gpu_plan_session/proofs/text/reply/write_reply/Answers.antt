use Rattle.std.proofs.Common.{rules}
use Rattle.gpu_plan_session.proofs.text.reply.write_reply.Goals as goal

pub returns-in-Busy : goal.returns-in-Busy
returns-in-Busy g c = search rules
