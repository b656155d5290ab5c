use Rattle.std.proofs.Common.{rules}
use Rattle.gpu_block_session.proofs.text.reply.write_piece.Goals as goal

pub returns : goal.returns
returns g c = search rules
