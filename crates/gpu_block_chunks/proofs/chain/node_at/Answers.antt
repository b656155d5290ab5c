use Rattle.std.proofs.Common.{rules}
use Rattle.gpu_block_chunks.proofs.chain.node_at.Goals as goal

pub returns-clause-counted : goal.returns-clause-counted
returns-clause-counted c = search rules
