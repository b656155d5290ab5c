use Rattle.std.proofs.Common.{rules}
use Rattle.gpu_block_session.proofs.block.session.BlockSession.report.Goals as goal

pub returns : goal.returns
returns c = search rules
