use Rattle.std.proofs.Common.{rules}
use Rattle.gpu_block_chunks.proofs.chain.chunk_ids.set_follower.Goals as goal

pub returns-in-Some-clause-links : goal.returns-in-Some-clause-links
returns-in-Some-clause-links c = search rules
