-- What is read of a block: its gaps, what is counted of it, and its leaks.
use Rattle.std.specs.Prelude.{ℕ, List, map, length}
use Rattle.gpu_block_pieces.specs.FreeList.{extent_bytes}
use Rattle.gpu_block_pieces.specs.declared.pieces.BlockStatistics.{BlockStatistics}
use Rattle.gpu_block_pieces.specs.Leak.{LeakOf, leak_of}
use Rattle.gpu_block_pieces.specs.Pieces.{gaps_between, longest}
use Rattle.gpu_block.specs.Block.{Block, extents_of, size_of, is_shared}

-- the gaps of a block, in order
abbrev pub gaps_in : Block → List (ℕ × ℕ)
gaps_in b = gaps_between 0 (extents_of b) (size_of b)

-- its pieces and the bytes that they take, and its gaps and the longest one
abbrev pub statistics_of : Block → BlockStatistics
statistics_of b = record {
  pieces = length (extents_of b);
  piece_bytes = extent_bytes (extents_of b);
  gaps = length (gaps_in b);
  longest_gap = longest (gaps_in b);
}

-- the live pieces of a block, in the order of their starts
abbrev pub leaks_of : ℕ → ℕ → Block → List LeakOf
leaks_of memory_type memory_block b = map (leak_of memory_type memory_block (is_shared b)) (extents_of b)
