-- What is read of memory types, whatever their blocks are known by.
use Rattle.std.specs.Prelude.{◌≡◌, ℕ, List, [], length, Option, Some, None}
use Rattle.std.specs.Option.{is_some, unwrap_or}
use Rattle.gpu_block_pieces.specs.Leak.{LeakOf, leak_text}
use Rattle.gpu_core.specs.TypeReport.{counted_with, nothing_counted}
use Rattle.gpu_core.specs.TypeState.{capacity_of, shared_count}
use Rattle.gpu_core.specs.Blocks.{Slots, slots_at}
use Rattle.gpu_core.specs.Budgets.{Budgets, budget_at}
use Rattle.gpu_c.specs.Visit.{copied_into}
use Rattle.gpu_c.specs.declared.allocator_values.TypeStatistics.{TypeStatistics}

-- what is counted of a memory type, and of all its blocks together
abbrev pub type_counts : {H : Type 0} → Slots H → Budgets → (t : ℕ) → TypeStatistics
type_counts all budgets t =
    let slots = slots_at all t in
    let budget = budget_at budgets t in
    let counted = counted_with nothing_counted slots in
    record {
      capacity = capacity_of slots;
      slots = length slots;
      shared_blocks = shared_count slots;
      has_budget = is_some budget;
      budget = unwrap_or budget 0;
      pieces = counted.pieces;
      piece_bytes = counted.piece_bytes;
      gaps = counted.gaps;
      longest_gap = counted.longest_gap;
    }

-- a text was copied into a buffer, as much as there is room for, and its whole length reported
abbrev pub ShowsText : (text old new : List ℕ) → (whole : ℕ) → Type 0
ShowsText text old new whole = (new ≡ copied_into text old) × (whole ≡ length text)

-- the text of a live piece was copied so; of none it is empty
abbrev pub ShowsLeak : Option LeakOf → (old new : List ℕ) → (whole : ℕ) → Type 0
ShowsLeak None old new whole = ShowsText [] old new whole
ShowsLeak (Some leak) old new whole = ShowsText (leak_text leak) old new whole
