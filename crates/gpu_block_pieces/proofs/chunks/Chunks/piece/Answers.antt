use Rattle.std.proofs.Common.{ap, sym, subst, List}
use Rattle.gpu_block_chunks.specs.declared.chunk.Chunk.{Chunk}
use Rattle.gpu_block_chunks.specs.ChunkList.{chunk_of}
use Rattle.gpu_block_pieces.specs.Chunks.{HoldsChunkId}
use Rattle.gpu_block_pieces.specs.Indexed.{LaidChunks}
use Rattle.gpu_block_pieces.proofs.FoundByChunkId.{not_held}
use Rattle.gpu_block_pieces.proofs.chunks.Chunks.piece.Goals as goal

pub returns-then-is_free-clause-piece : goal.returns-then-is_free-clause-piece
returns-then-is_free-clause-piece c = λ k h.
    not_held c.self.inside.chain.chunks (chunk_of c.in_ok-chunk.chunk) c.args.chunk_id c.laid_out.ensures.distinct c.in_ok-chunk.ensures.value.at (c.is_free.ensures.0 c.if-is_free.true) k
    (subst (λ (xs : List Chunk). HoldsChunkId xs c.args.chunk_id k) (sym (ap (λ (v : LaidChunks). v.items) c.self.view_is)) h)
