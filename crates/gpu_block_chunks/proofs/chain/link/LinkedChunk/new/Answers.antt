use Rattle.std.proofs.Common.{rules}
use Rattle.gpu_block_chunks.proofs.chain.link.LinkedChunk.new.Goals as goal

pub returns-clause-links : goal.returns-clause-links
returns-clause-links c = search rules

pub returns-clause-value : goal.returns-clause-value
returns-clause-value c = search rules
