-- What a memory type shows of its blocks and pieces: leaks, and what it adds to a report.
use Rattle.std.specs.Prelude.{ℕ, ◌+◌, List, [], ◌∷◌, ◌++◌, map, length, Option, Some, None}
use Rattle.gpu_values.specs.declared.report.MemoryBlockReport.{MemoryBlockReport}
use Rattle.gpu_block_pieces.specs.declared.pieces.BlockStatistics.{BlockStatistics}
use Rattle.gpu_block.specs.Block.{Block, extents_of, size_of, allocated_bytes}
use Rattle.gpu_block_pieces.specs.FreeList.{Extent}
use Rattle.gpu_block_pieces.specs.Statistics.{together}
use Rattle.gpu_block.specs.BlockViews.{statistics_of, leaks_of}
use Rattle.gpu_block_pieces.specs.Leak.{LeakOf}
use Rattle.gpu_values.specs.Report.{Row, Report}
use Rattle.gpu_block_pieces.specs.Rows.{extent_row}
use Rattle.gpu_core.specs.TypeState.{Slot, slots_sum, capacity_of}

-- ---- leaks

-- the live pieces of the block in a slot, in the order of their starts
abbrev pub leaks_in : {H : Type 0} → (memory_type slot : ℕ) → Option (Slot H) → Option (List LeakOf)
leaks_in memory_type slot None = None
leaks_in memory_type slot (Some s) = Some (leaks_of memory_type slot s.block)

-- the live pieces of all slots by slot, then in the order of their starts, where the first slot has the index `first`
abbrev pub leaks_from : {H : Type 0} → (memory_type first : ℕ) → List (Option (Slot H)) → List LeakOf
leaks_from memory_type first [] = []
leaks_from memory_type first (None ∷ slots) = leaks_from memory_type (first + 1) slots
leaks_from memory_type first (Some s ∷ slots) = leaks_of memory_type first s.block ++ leaks_from memory_type (first + 1) slots

-- the live pieces of a type
abbrev pub type_leaks : {H : Type 0} → (memory_type : ℕ) → List (Option (Slot H)) → List LeakOf
type_leaks memory_type slots = leaks_from memory_type 0 slots

-- ---- one block

-- the live pieces of the block in a slot, in the order of their starts
abbrev pub pieces_in : {H : Type 0} → Option (Slot H) → Option (List Extent)
pieces_in None = None
pieces_in (Some s) = Some (extents_of s.block)

-- what is counted of the block in a slot
abbrev pub statistics_in : {H : Type 0} → Option (Slot H) → Option BlockStatistics
statistics_in None = None
statistics_in (Some s) = Some (statistics_of s.block)

-- the block in a slot
abbrev pub block_in : {H : Type 0} → Option (Slot H) → Option Block
block_in None = None
block_in (Some s) = Some s.block

-- ---- what is counted of several blocks

abbrev pub nothing_counted : BlockStatistics
nothing_counted = record { pieces = 0; piece_bytes = 0; gaps = 0; longest_gap = 0 }

-- what is counted of the live blocks of all slots, beside what was counted before
abbrev pub counted_with : {H : Type 0} → BlockStatistics → List (Option (Slot H)) → BlockStatistics
counted_with counted [] = counted
counted_with counted (None ∷ slots) = counted_with counted slots
counted_with counted (Some s ∷ slots) = counted_with (together counted (statistics_of s.block)) slots

-- ---- reports

-- the rows of a block's live pieces, in the order of their starts
abbrev pub block_rows : Block → List Row
block_rows b = map extent_row (extents_of b)

-- a block, whose rows begin at the index `first` of all rows
abbrev pub block_report : ℕ → Block → MemoryBlockReport
block_report first b = record { size = size_of b; allocations = record { start = first; end = first + length (block_rows b) } }

-- the rows of all live pieces, in the order of the slots
abbrev pub type_rows : {H : Type 0} → List (Option (Slot H)) → List Row
type_rows [] = []
type_rows (None ∷ slots) = type_rows slots
type_rows (Some s ∷ slots) = block_rows s.block ++ type_rows slots

-- the live blocks in the order of their slots, where the rows begin at the index `first`
abbrev pub type_blocks : {H : Type 0} → ℕ → List (Option (Slot H)) → List MemoryBlockReport
type_blocks first [] = []
type_blocks first (None ∷ slots) = type_blocks first slots
type_blocks first (Some s ∷ slots) = block_report first s.block ∷ type_blocks (first + length (block_rows s.block)) slots

-- the bytes of all live pieces, padding included
abbrev pub slot_allocated : {H : Type 0} → Option (Slot H) → ℕ
slot_allocated None = 0
slot_allocated (Some s) = allocated_bytes s.block

abbrev pub allocated_of : {H : Type 0} → List (Option (Slot H)) → ℕ
allocated_of slots = slots_sum slot_allocated slots

-- a report with a type's pieces and blocks behind what it had
abbrev pub with_type : {H : Type 0} → Report → List (Option (Slot H)) → Report
with_type r slots = record {
  rows = r.rows ++ type_rows slots;
  blocks = r.blocks ++ type_blocks (length r.rows) slots;
  allocated = r.allocated + allocated_of slots;
  capacity = r.capacity + capacity_of slots;
}
