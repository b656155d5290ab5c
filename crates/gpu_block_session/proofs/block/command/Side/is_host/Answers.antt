use Rattle.std.proofs.Common.{rules}
use Rattle.gpu_block_session.proofs.block.command.Side.is_host.Goals as goal

pub returns-in-Device : goal.returns-in-Device
returns-in-Device c = search rules
