use Rattle.std.proofs.Common.{rules}
use Rattle.gpu_plan_session.proofs.text.reply.write_order.Goals as goal

pub returns : goal.returns
returns g c = search rules
