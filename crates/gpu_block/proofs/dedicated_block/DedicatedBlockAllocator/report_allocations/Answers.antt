use Rattle.std.proofs.Common.{List, sym, subst}
use Rattle.std.specs.Prelude.{All}
use Rattle.gpu_block_chunks.specs.declared.chunk.Chunk.{Chunk}
use Rattle.gpu_block_chunks.specs.ChunkList.{Covers}
use Rattle.gpu_block_pieces.specs.Chunks.{IsChunk}
use Rattle.gpu_block.proofs.Whole.{whole_laid_out, whole_each}
use Rattle.gpu_block.proofs.dedicated_block.DedicatedBlockAllocator.report_allocations.Goals as goal

pub rows_of-requires-clause-laid_out : goal.rows_of-requires-clause-laid_out
rows_of-requires-clause-laid_out c =
    let w = whole_laid_out c.self.inside.piece c.as_slice.result.now c.self.inside.size c.as_slice.ensures c.self.invariant.0 c.self.invariant.1 c.self.invariant.2 in
    (0, w.0, w.1, subst (λ (xs : List Chunk). Covers xs 0 w.0) (sym c.of_list-chunks.ensures) w.2)

pub rows_of-requires-clause-each : goal.rows_of-requires-clause-each
rows_of-requires-clause-each c = (
  2,
  subst (λ (xs : List Chunk). All (IsChunk 2) xs) (sym c.of_list-chunks.ensures)
      (whole_each c.self.inside.piece c.as_slice.result.now c.self.inside.size c.as_slice.ensures c.self.invariant.0 c.self.invariant.2),
)
