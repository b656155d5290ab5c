-- What reports show.
use Rattle.std.specs.Prelude.{◌≡◌, ℕ, List, [], ◌∷◌, ◌++◌, length, map, Option, Some, string_bytes, codes}
use Rattle.std.specs.Fmt.{decimal, debug_str}
use Rattle.gpu_values.specs.declared.report.AllocationReport.{AllocationReport}
use Rattle.gpu_values.specs.declared.report.AllocatorReport.{AllocatorReport}
use Rattle.gpu_values.specs.declared.report.MemoryBlockReport.{MemoryBlockReport}
use Rattle.gpu_values.specs.Bytes.{IsBytesText}

-- a piece: its name, and its own offset and size
pub record Row : Type 0 where
  pub name : List ℕ
  pub offset : ℕ
  pub size : ℕ

-- the row that a report's item is
abbrev pub row_of : AllocationReport → Row
row_of a = record { name = string_bytes a.name; offset = a.offset; size = a.size }

-- a whole report: its rows, its blocks with the range of their rows, and the two sums
pub record Report : Type 0 where
  pub rows : List Row
  pub blocks : List MemoryBlockReport
  pub allocated : ℕ
  pub capacity : ℕ

-- what a report says
abbrev pub report_of : AllocatorReport → Report
report_of r = record {
  rows = map row_of r.allocations.items;
  blocks = r.blocks.items;
  allocated = r.total_allocated_bytes;
  capacity = r.total_capacity_bytes;
}

-- ---- what reports print

-- two hyphens where there is no name
abbrev pub shown_name : List ℕ → List ℕ
shown_name [] = codes "--"
shown_name (c ∷ cs) = c ∷ cs

-- the name in quotes, and the size; of a name that is not ASCII the quotes say nothing
abbrev pub IsRowText : Row → List ℕ → Type 0
IsRowText r text =
    (quoted : List ℕ) → debug_str (shown_name r.name) ≡ Some quoted → (size : List ℕ) × IsBytesText r.size size × (text ≡ quoted ++ (codes ": " ++ size))

-- the two sums
abbrev pub IsSumsText : ℕ → ℕ → List ℕ → Type 0
IsSumsText allocated capacity text =
    (part : List ℕ) × (whole : List ℕ) × IsBytesText allocated part × IsBytesText capacity whole × (text ≡ part ++ (codes " / " ++ whole))

-- how many blocks and pieces there are
abbrev pub counts_text : ℕ → ℕ → List ℕ
counts_text blocks pieces = codes "blocks: " ++ (decimal blocks ++ (codes ", allocations: " ++ decimal pieces))

-- the sums, the counts, and a text of the largest pieces, of which no more is said than that it is empty at a limit of 0
abbrev pub IsReportText : Report → Option ℕ → List ℕ → Type 0
IsReportText r limit text =
    (sums : List ℕ) × (largest : List ℕ) × IsSumsText r.allocated r.capacity sums × (limit ≡ Some 0 → largest ≡ [])
    × (text ≡ codes "AllocatorReport { summary: " ++ (sums ++ (codes ", " ++ (counts_text (length r.blocks) (length r.rows) ++ (codes ", largest: [" ++ (largest ++ codes "] }"))))))
