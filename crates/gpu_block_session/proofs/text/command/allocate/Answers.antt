use Rattle.std.proofs.Common.{arith}
use Rattle.std.proofs.lemmas.Grind.{common_steps}
use Rattle.gpu_block_session.proofs.text.command.allocate.Goals as goal

pub returns : goal.returns
returns c = grind (arith, common_steps)
