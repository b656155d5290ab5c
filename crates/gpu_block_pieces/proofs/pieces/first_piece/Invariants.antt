use Rattle.std.proofs.Common.{◌≡◌, length}
use Rattle.gpu_block_pieces.specs.Chunks.{extents_of}
use Rattle.gpu_block_pieces.specs.Pieces.{IsRun}
use Rattle.gpu_block_pieces.proofs.pieces.first_piece.Given as goal

abbrev pub invariant-loop-chunk : goal.invariant-loop-chunk
invariant-loop-chunk l = record {
  extents : extents_of l.chunks ≡ extents_of l.fn.chunks;
  run : IsRun l.fn.chunks → IsRun l.chunks;
}

abbrev pub decreases-loop-chunk : goal.decreases-loop-chunk
decreases-loop-chunk l = length l.chunks
