use Rattle.std.proofs.Common.{rules}
use Rattle.gpu_block_session.proofs.block_stage.BlockStage.serve.Goals as goal

pub returns-in-Free : goal.returns-in-Free
returns-in-Free c = search rules

pub returns-in-Allocate : goal.returns-in-Allocate
returns-in-Allocate c = search rules
