-- The JSON of blocks with their pieces and gaps.
use Rattle.std.specs.Prelude.{ℕ, ◌-◌, List, ◌++◌, codes}
use Rattle.std.specs.Fmt.{decimal}
use Rattle.gpu_values.specs.declared.allocation_type.AllocationType.{AllocationType}
use Rattle.gpu_values.specs.declared.allocation_type.AllocationType.TheVariants.{Free, Linear, NonLinear}
use Rattle.gpu_block_pieces.specs.FreeList.{Extent}
use Rattle.gpu_block.specs.Block.{Block, extents_of, size_of}
use Rattle.gpu_block.specs.SubAllocator.{block_of}
use Rattle.gpu_block.specs.BlockViews.{gaps_in, statistics_of}
use Rattle.gpu_block_pieces.specs.declared.pieces.BlockStatistics.{BlockStatistics}
use Rattle.gpu_report.specs.declared.view.BlockView.{BlockView}
use Rattle.gpu_report.specs.Escape.{quoted}
use Rattle.gpu_report.specs.Json.{listed}

-- a piece's kind
abbrev pub kind_word : AllocationType → List ℕ
kind_word Free = codes "free"
kind_word Linear = codes "linear"
kind_word NonLinear = codes "nonlinear"

-- a piece: its kind, name and number, where its own bytes begin, its padding before them, and how many they are
unfoldable pub piece_names_json : Extent → List ℕ
piece_names_json x = codes "{\"kind\":\"" ++ (kind_word x.kind ++ (codes "\",\"name\":" ++ (quoted x.name ++ (codes ",\"number\":" ++ decimal x.chunk_id))))

unfoldable pub piece_place_json : Extent → List ℕ
piece_place_json x =
    codes ",\"offset\":" ++ (decimal x.offset ++ (codes ",\"padding\":" ++ (decimal (x.offset - x.start) ++ (codes ",\"size\":" ++ (decimal (x.end - x.offset) ++ codes "}")))))

unfoldable pub piece_json : Extent → List ℕ
piece_json x = piece_names_json x ++ piece_place_json x

-- a gap: its length and where it begins
unfoldable pub gap_json : ℕ × ℕ → List ℕ
gap_json g = codes "{\"size\":" ++ (decimal (g.1 - g.0) ++ (codes ",\"start\":" ++ (decimal g.0 ++ codes "}")))

-- what is counted of a block
unfoldable pub statistics_json : BlockStatistics → List ℕ
statistics_json s =
    codes "\"statistics\":{\"gaps\":" ++ (decimal s.gaps ++ (codes ",\"longest_gap\":" ++ (decimal s.longest_gap
    ++ (codes ",\"piece_bytes\":" ++ (decimal s.piece_bytes ++ (codes ",\"pieces\":" ++ (decimal s.pieces ++ codes "}")))))))

-- what stands behind a block's gaps, and behind its pieces
unfoldable pub place_json : BlockView → List ℕ
place_json v = codes "],\"memory_type\":" ++ (decimal v.memory_type ++ (codes ",\"page_size\":" ++ (decimal v.page_size ++ codes ",\"pieces\":[")))

unfoldable pub sums_json : BlockView → List ℕ
sums_json v =
    codes "],\"size\":" ++ (decimal (size_of (block_of v.block.now)) ++
    (codes ",\"slot\":" ++ (decimal v.slot ++ (codes "," ++ (statistics_json (statistics_of (block_of v.block.now)) ++ codes "}")))))

-- a block: each gap once and each piece once, in order
unfoldable pub block_json : BlockView → List ℕ
block_json v =
    codes "{\"gaps\":[" ++ (listed gap_json (gaps_in (block_of v.block.now)) ++ (place_json v ++ (listed piece_json (extents_of (block_of v.block.now)) ++ sums_json v)))

-- blocks, and which version of which schema this is
abbrev pub blocks_json : List BlockView → List ℕ
blocks_json views = codes "{\"blocks\":[" ++ (listed block_json views ++ codes "],\"schema\":\"gpu_report.blocks\",\"version\":1}")
