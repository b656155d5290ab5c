-- A picture of an allocator's report: a bar for each block, of the pieces that the report names.
use Rattle.std.specs.Prelude.{ℕ, ◌+◌, List, [], ◌∷◌, ◌++◌, length, map, max, take, drop, nat_le, ◌&&◌, if◌then◌else◌, true, false, codes, string_bytes}
use Rattle.std.specs.List.{flat_map}
use Rattle.std.specs.Fmt.{decimal}
use Rattle.gpu_values.specs.declared.report.AllocationReport.{AllocationReport}
use Rattle.gpu_values.specs.declared.report.AllocatorReport.{AllocatorReport}
use Rattle.gpu_values.specs.declared.report.MemoryBlockReport.{MemoryBlockReport}
use Rattle.gpu_report.specs.declared.svg.Look.TheVariants as looks
use Rattle.gpu_report.specs.Picture.{Cell}
use Rattle.gpu_report.specs.Svg.{amount_text, cell_svg, bar_width, scale_note, capped, bar_start_svg, picture_start_svg, style_svg, entry_svg, totals_svg}

-- a piece's own bytes
abbrev pub row_cell : AllocationReport → Cell
row_cell a = record { look = looks.Piece; start = a.offset; end = capped (a.offset + a.size); name = string_bytes a.name }

-- a block's bytes, of which pieces cover some
abbrev pub rest_cell : MemoryBlockReport → Cell
rest_cell b = record { look = looks.Rest; start = 0; end = b.size; name = [] }

-- the rows of a block's range, none where the report has no such range
abbrev pub rows_in : List AllocationReport → MemoryBlockReport → List AllocationReport
rows_in rows b =
    if nat_le b.allocations.start b.allocations.end && nat_le b.allocations.end (length rows) then drop b.allocations.start (take b.allocations.end rows) else []

-- the size of the largest block, beside one of that size
abbrev pub largest_of : ℕ → List MemoryBlockReport → ℕ
largest_of size [] = size
largest_of size (b ∷ blocks) = largest_of (max size b.size) blocks

-- what stands above a bar
unfoldable pub index_note : ℕ → MemoryBlockReport → List ℕ
index_note i b = codes "block " ++ (decimal i ++ (codes ": " ++ amount_text b.size))

unfoldable pub count_note : ℕ → List ℕ
count_note pieces = codes ", " ++ (decimal pieces ++ codes " pieces")

unfoldable pub row_label_svg : (largest i pieces : ℕ) → MemoryBlockReport → List ℕ
row_label_svg largest i pieces b = index_note i b ++ (count_note pieces ++ (scale_note largest b.size ++ codes "</text>\n"))

-- the i-th bar: the whole block, and each piece of its range once
unfoldable pub row_bar_svg : (largest : ℕ) → List AllocationReport → (i : ℕ) → MemoryBlockReport → List ℕ
row_bar_svg largest rows i b =
    let width = bar_width largest b.size in
    bar_start_svg i ++ (row_label_svg largest i (length (rows_in rows b)) b
    ++ (cell_svg b.size width (rest_cell b) ++ (flat_map (λ a. cell_svg b.size width (row_cell a)) (rows_in rows b) ++ codes "</g>\n")))

abbrev pub row_bars_svg : (largest : ℕ) → List AllocationReport → (i : ℕ) → List MemoryBlockReport → List ℕ
row_bars_svg largest rows i [] = []
row_bars_svg largest rows i (b ∷ blocks) = row_bar_svg largest rows i b ++ row_bars_svg largest rows (i + 1) blocks

-- the line above all bars, and the legend
unfoldable pub report_line : AllocatorReport → List ℕ
report_line r = totals_svg (length r.blocks.items) (length r.allocations.items) r.total_allocated_bytes r.total_capacity_bytes ++ codes "</text>\n"

unfoldable pub report_legend_svg : List ℕ
report_legend_svg = entry_svg 200 looks.Piece ++ entry_svg 1700 looks.Rest

-- the picture
abbrev pub report_svg : AllocatorReport → List ℕ
report_svg r =
    picture_start_svg (length r.blocks.items) ++ (style_svg ++ (report_line r ++ (report_legend_svg
    ++ (row_bars_svg (largest_of 0 r.blocks.items) r.allocations.items 0 r.blocks.items ++ codes "</svg>\n"))))
