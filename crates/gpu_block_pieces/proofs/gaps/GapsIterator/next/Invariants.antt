use Rattle.std.proofs.Common.{◌≡◌, length}
use Rattle.gpu_block_pieces.specs.Pieces.{gaps_between}
use Rattle.gpu_block_pieces.proofs.gaps.GapsIterator.next.Given as goal

abbrev pub invariant-loop-piece : goal.invariant-loop-piece
invariant-loop-piece l = record {
  size : l.self-inside.size ≡ l.initial.self-inside.size;
  gaps : gaps_between l.self-inside.end l.self-inside.pieces l.initial.self-inside.size ≡ gaps_between l.initial.self-inside.end l.initial.self-inside.pieces l.initial.self-inside.size;
}

abbrev pub decreases-loop-piece : goal.decreases-loop-piece
decreases-loop-piece l = length l.self-inside.pieces
