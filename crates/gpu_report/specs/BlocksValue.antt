-- The value that stands for blocks with their pieces and gaps.
use Rattle.std.specs.Prelude.{ℕ, ◌-◌, List, [], ◌∷◌, codes}
use Rattle.json.specs.Json.{Json, string}
use Rattle.gpu_block_pieces.specs.FreeList.{Extent}
use Rattle.gpu_block.specs.Block.{Block, extents_of, size_of}
use Rattle.gpu_block.specs.SubAllocator.{block_of}
use Rattle.gpu_block.specs.BlockViews.{gaps_in, statistics_of}
use Rattle.gpu_block_pieces.specs.declared.pieces.BlockStatistics.{BlockStatistics}
use Rattle.gpu_report.specs.declared.view.BlockView.{BlockView}
use Rattle.gpu_report.specs.BlocksJson.{kind_word}
use Rattle.gpu_report.specs.Values.{number_of, list_of, object_of}

-- a piece: its kind, name and number, where its own bytes begin, its padding before them, and how many they are
abbrev pub piece_value : Extent → Json
piece_value x =
    object_of (
    (codes "kind", string (kind_word x.kind))
    ∷ (codes "name", string x.name)
    ∷ (codes "number", number_of x.chunk_id)
    ∷ (codes "offset", number_of x.offset)
    ∷ (codes "padding", number_of (x.offset - x.start))
    ∷ (codes "size", number_of (x.end - x.offset))
    ∷ []
    )

-- a gap: its length and where it begins
abbrev pub gap_value : ℕ × ℕ → Json
gap_value g = object_of ((codes "size", number_of (g.1 - g.0)) ∷ (codes "start", number_of g.0) ∷ [])

-- what is counted of a block
abbrev pub statistics_value : BlockStatistics → Json
statistics_value s =
    object_of (
    (codes "gaps", number_of s.gaps)
    ∷ (codes "longest_gap", number_of s.longest_gap)
    ∷ (codes "piece_bytes", number_of s.piece_bytes)
    ∷ (codes "pieces", number_of s.pieces)
    ∷ []
    )

-- a block: each gap once and each piece once, in order
abbrev pub block_value : BlockView → Json
block_value v =
    let block : Block = block_of v.block.now in
    object_of (
    (codes "gaps", list_of gap_value (gaps_in block))
    ∷ (codes "memory_type", number_of v.memory_type)
    ∷ (codes "page_size", number_of v.page_size)
    ∷ (codes "pieces", list_of piece_value (extents_of block))
    ∷ (codes "size", number_of (size_of block))
    ∷ (codes "slot", number_of v.slot)
    ∷ (codes "statistics", statistics_value (statistics_of block))
    ∷ []
    )

-- the blocks, and which version of which schema this is
abbrev pub blocks_value : List BlockView → Json
blocks_value views =
    object_of ((codes "blocks", list_of block_value views) ∷ (codes "schema", string (codes "gpu_report.blocks")) ∷ (codes "version", number_of 1) ∷ [])
