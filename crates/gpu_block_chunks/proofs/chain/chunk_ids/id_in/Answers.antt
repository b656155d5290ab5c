use Rattle.std.proofs.Common.{rules}
use Rattle.gpu_block_chunks.proofs.chain.chunk_ids.id_in.Goals as goal

pub at-requires : goal.at-requires
at-requires c = search rules
