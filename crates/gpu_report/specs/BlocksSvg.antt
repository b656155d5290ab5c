-- A picture of blocks: a bar for each, of what lies in it.
use Rattle.std.specs.Prelude.{ℕ, ◌+◌, List, [], ◌∷◌, ◌++◌, length, max, nat_lt, if◌then◌else◌, true, false, codes}
use Rattle.std.specs.List.{flat_map}
use Rattle.std.specs.Fmt.{decimal}
use Rattle.gpu_block.specs.Block.{Block, extents_of, size_of}
use Rattle.gpu_block.specs.SubAllocator.{block_of}
use Rattle.gpu_block.specs.BlockViews.{statistics_of}
use Rattle.gpu_block_pieces.specs.declared.pieces.BlockStatistics.{BlockStatistics}
use Rattle.gpu_report.specs.declared.view.BlockView.{BlockView}
use Rattle.gpu_report.specs.declared.blocks_svg.Totals.{Totals}
use Rattle.gpu_report.specs.Picture.{cells_between}
use Rattle.gpu_report.specs.Svg.{amount_text, cell_svg, page_ends_svg, shown_pages, bar_width, scale_note, capped, bar_start_svg, picture_start_svg, style_svg, legend_svg, totals_svg}

abbrev pub counted : BlockView → BlockStatistics
counted v = statistics_of (block_of v.block.now)

abbrev pub bytes_of : BlockView → ℕ
bytes_of v = size_of (block_of v.block.now)

-- what is told of blocks, with one more
unfoldable pub with_view : Totals → BlockView → Totals
with_view t v = record {
  pieces = capped (t.pieces + (counted v).pieces);
  taken = capped (t.taken + (counted v).piece_bytes);
  capacity = capped (t.capacity + bytes_of v);
  longest_gap = max t.longest_gap (counted v).longest_gap;
  largest = max t.largest (bytes_of v);
}

abbrev pub with_views : Totals → List BlockView → Totals
with_views t [] = t
with_views t (v ∷ views) = with_views (with_view t v) views

-- what is told of all blocks
abbrev pub totals_of : List BlockView → Totals
totals_of views = with_views (record { pieces = 0; taken = 0; capacity = 0; longest_gap = 0; largest = 0 }) views

-- the page size, where pages matter
abbrev pub page_note : ℕ → List ℕ
page_note page = if nat_lt 1 page then codes ", pages of " ++ amount_text page else []

-- what stands above a bar: where the block stands and its size, its pieces, its gaps
unfoldable pub block_note : BlockView → List ℕ
block_note v = codes "type " ++ (decimal v.memory_type ++ (codes ", slot " ++ (decimal v.slot ++ (codes ": " ++ amount_text (bytes_of v)))))

unfoldable pub pieces_note : (pieces bytes : ℕ) → List ℕ
pieces_note pieces bytes = (codes ", " ++ (decimal pieces ++ codes " pieces, ")) ++ (amount_text bytes ++ codes " taken")

unfoldable pub gaps_note : BlockStatistics → List ℕ
gaps_note s = codes ", " ++ (decimal s.gaps ++ (codes " gaps, longest " ++ amount_text s.longest_gap))

unfoldable pub label_svg : (largest : ℕ) → BlockView → List ℕ
label_svg largest v = block_note v ++ (pieces_note (counted v).pieces (counted v).piece_bytes ++ (gaps_note (counted v) ++ (page_note v.page_size ++ (scale_note largest (bytes_of v) ++ codes "</text>\n"))))

-- the cells of a block, each once
abbrev pub cells_svg : ℕ → BlockView → List ℕ
cells_svg width v = flat_map (cell_svg (bytes_of v) width) (cells_between 0 (extents_of (block_of v.block.now)) (bytes_of v))

-- the i-th bar
unfoldable pub bar_svg : (largest i : ℕ) → BlockView → List ℕ
bar_svg largest i v =
    let width = bar_width largest (bytes_of v) in
    bar_start_svg i ++ (label_svg largest v ++ (cells_svg width v ++ (page_ends_svg (bytes_of v) width v.page_size (shown_pages (bytes_of v) v.page_size) ++ codes "</g>\n")))

-- the bars, of which the first has that index
abbrev pub bars_svg : (largest i : ℕ) → List BlockView → List ℕ
bars_svg largest i [] = []
bars_svg largest i (v ∷ views) = bar_svg largest i v ++ bars_svg largest (i + 1) views

-- the line above all bars
unfoldable pub totals_line : ℕ → Totals → List ℕ
totals_line blocks t = totals_svg blocks t.pieces t.taken t.capacity ++ (codes ", longest gap " ++ (amount_text t.longest_gap ++ codes "</text>\n"))

-- the picture
abbrev pub blocks_svg : List BlockView → List ℕ
blocks_svg views =
    picture_start_svg (length views) ++ (style_svg ++ (totals_line (length views) (totals_of views) ++ (legend_svg ++ (bars_svg (totals_of views).largest 0 views ++ codes "</svg>\n"))))
