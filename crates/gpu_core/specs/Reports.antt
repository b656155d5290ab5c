-- What a report of an allocator shows: the live pieces and blocks of all memory types.
use Rattle.std.specs.Prelude.{ℕ, ◌+◌, List, [], ◌∷◌, ◌++◌, length}
use Rattle.std.specs.List.{sum_by}
use Rattle.gpu_values.specs.declared.report.MemoryBlockReport.{MemoryBlockReport}
use Rattle.gpu_values.specs.Report.{Row, Report}
use Rattle.gpu_core.specs.TypeReport.{type_rows, type_blocks, allocated_of}
use Rattle.gpu_core.specs.Blocks.{Slots, total_capacity}

-- the rows of all live pieces by memory type, then by slot, then in the order of their starts
abbrev pub all_rows : {H : Type 0} → Slots H → List Row
all_rows [] = []
all_rows (s ∷ ss) = type_rows s ++ all_rows ss

-- the live blocks by memory type, then by slot, where the rows begin at the index `first`
abbrev pub all_blocks : {H : Type 0} → (first : ℕ) → Slots H → List MemoryBlockReport
all_blocks first [] = []
all_blocks first (s ∷ ss) = type_blocks first s ++ all_blocks (first + length (type_rows s)) ss

-- the bytes of all live pieces, padding included
abbrev pub total_allocated : {H : Type 0} → Slots H → ℕ
total_allocated slots = sum_by (λ s. allocated_of s) slots

-- the report of all memory types
abbrev pub whole_report : {H : Type 0} → Slots H → Report
whole_report slots = record {
  rows = all_rows slots;
  blocks = all_blocks 0 slots;
  allocated = total_allocated slots;
  capacity = total_capacity slots;
}
