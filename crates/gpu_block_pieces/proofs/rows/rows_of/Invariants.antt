use Rattle.std.proofs.Common.{◌≡◌, ◌++◌, ◌<◌, ◌^◌, ℕ, map, length}
use Rattle.std.specs.Prelude.{All}
use Rattle.gpu_block_chunks.specs.ChunkList.{Covers}
use Rattle.gpu_block_pieces.specs.Chunks.{IsChunk, extents_of}
use Rattle.gpu_values.specs.Report.{row_of}
use Rattle.gpu_block_pieces.specs.Rows.{extent_row}
use Rattle.gpu_block_pieces.proofs.rows.rows_of.Given as goal

abbrev pub invariant-loop-chunk : goal.invariant-loop-chunk
invariant-loop-chunk l = record {
  rows : map row_of l.rows.items ++ map extent_row (extents_of l.chunks) ≡ map extent_row (extents_of l.fn.chunks);
  laid_out : (from : ℕ) × (to : ℕ) × (to < 2 ^ 64) × Covers l.chunks from to;
  each : (counter : ℕ) × All (IsChunk counter) l.chunks;
}

abbrev pub decreases-loop-chunk : goal.decreases-loop-chunk
decreases-loop-chunk l = length l.chunks
