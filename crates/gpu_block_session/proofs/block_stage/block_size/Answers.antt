use Rattle.std.proofs.Common.{rules}
use Rattle.gpu_block_session.proofs.block_stage.block_size.Goals as goal

pub returns-clause-size : goal.returns-clause-size
returns-clause-size c = search rules
