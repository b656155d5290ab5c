use Rattle.std.proofs.Common.{rules}
use Rattle.gpu_block_chunks.proofs.chain.Chain.reserve.Goals as goal

pub returns-then-more-room-clause-enough : goal.returns-then-more-room-clause-enough
returns-then-more-room-clause-enough c = search rules
