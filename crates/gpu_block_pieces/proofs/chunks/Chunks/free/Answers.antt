use Rattle.std.proofs.Common.{◌∙◌, ap, sym, subst, List}
use Rattle.gpu_block_chunks.specs.declared.chunk.Chunk.{Chunk}
use Rattle.gpu_block_chunks.specs.Chain.{Linked}
use Rattle.gpu_block_pieces.specs.Chunks.{HoldsChunkId}
use Rattle.gpu_block_pieces.specs.Indexed.{LaidChunks}
use Rattle.gpu_block_pieces.proofs.FoundByChunkId.{none_held}
use Rattle.gpu_block_pieces.proofs.chunks.Chunks.free.Goals as goal

pub returns-in_err-freed-clause-freed : goal.returns-in_err-freed-clause-freed
returns-in_err-freed-clause-freed c =
    let f = c.in_err-freed.ensures.freed in
    rw c.from_residual.ensures (
      (λ k h.
          none_held c.self.inside.chain.chunks c.args.chunk_id f.0 k
          (subst (λ (xs : List Chunk). HoldsChunkId xs c.args.chunk_id k) (sym (ap (λ (v : LaidChunks). v.items) c.self.view_is)) h)),
      ap (λ (v : Linked). record { items = v.chunks; size = v.size }) f.1 ∙ c.self.view_is,
    )
