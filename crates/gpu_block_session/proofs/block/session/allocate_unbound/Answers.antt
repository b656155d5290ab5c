use Rattle.std.proofs.Common.{rules}
use Rattle.gpu_block_session.proofs.block.session.allocate_unbound.Goals as goal

pub returns-in-Ok-clause-taking : goal.returns-in-Ok-clause-taking
returns-in-Ok-clause-taking c = search rules

pub returns-in-Err-clause-taking : goal.returns-in-Err-clause-taking
returns-in-Err-clause-taking c = search rules
