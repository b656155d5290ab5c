use Rattle.std.proofs.Common.{rules}
use Rattle.gpu_block_session.proofs.text.reply.write_reply.Goals as goal

pub returns-in-Allocated : goal.returns-in-Allocated
returns-in-Allocated g c = search rules
