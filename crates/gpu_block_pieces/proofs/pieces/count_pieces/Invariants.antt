use Rattle.std.proofs.Common.{◌≡◌, ◌+◌, ◌≤◌, length}
use Rattle.std.specs.Prelude.{max}
use Rattle.gpu_block_pieces.specs.FreeList.{extent_bytes}
use Rattle.gpu_block_pieces.specs.Pieces.{LieBetween, gaps_between, longest}
use Rattle.gpu_block_pieces.proofs.pieces.count_pieces.Given as goal

abbrev pub invariant-loop-piece : goal.invariant-loop-piece
invariant-loop-piece l = record {
  laid_out : LieBetween l.end l.piece-iterator l.fn.size;
  pieces : l.counted.pieces + length l.piece-iterator ≡ length l.fn.pieces;
  bytes : l.counted.piece_bytes + extent_bytes l.piece-iterator ≡ extent_bytes l.fn.pieces;
  gaps : l.counted.gaps + length (gaps_between l.end l.piece-iterator l.fn.size) ≡ length (gaps_between 0 l.fn.pieces l.fn.size);
  longest : max l.counted.longest_gap (longest (gaps_between l.end l.piece-iterator l.fn.size)) ≡ longest (gaps_between 0 l.fn.pieces l.fn.size);
  few_pieces : l.counted.pieces ≤ l.end;
  few_bytes : l.counted.piece_bytes ≤ l.end;
  few_gaps : l.counted.gaps ≤ l.end;
}
