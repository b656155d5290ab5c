-- What is counted of several blocks together.
use Rattle.std.specs.Prelude.{ℕ, ◌+◌, ◌-◌, ◌^◌, min, max}
use Rattle.gpu_block_pieces.specs.declared.pieces.BlockStatistics.{BlockStatistics}

-- a count stays at the top of 64 bits
abbrev pub capped : ℕ → ℕ
capped n = min n (2 ^ 64 - 1)

-- two counts together: the sums, and the longest gap of either
abbrev pub together : BlockStatistics → BlockStatistics → BlockStatistics
together a b = record {
  pieces = capped (a.pieces + b.pieces);
  piece_bytes = capped (a.piece_bytes + b.piece_bytes);
  gaps = capped (a.gaps + b.gaps);
  longest_gap = max a.longest_gap b.longest_gap;
}
