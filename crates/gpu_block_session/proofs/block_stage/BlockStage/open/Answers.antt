use Rattle.std.proofs.Common.{rules}
use Rattle.gpu_block_session.proofs.block_stage.BlockStage.open.Goals as goal

pub returns-in-Err : goal.returns-in-Err
returns-in-Err c = search rules
