-- The live blocks of all memory types of an allocator, by memory type and slot.
use Rattle.std.specs.Prelude.{ℕ, List, [], Option}
use Rattle.std.specs.List.{sum_by, slice_index_or}
use Rattle.gpu_core.specs.TypeState.{Slot, slot_at, capacity_of, KeepsOneEmptyAtMost}
use Rattle.gpu_core.specs.Slots.{AreSound}

-- the slots of each memory type, where H is the driver's handle of a block
abbrev pub Slots : (H : Type 0) → Type 0
Slots H = List (List (Option (Slot H)))

-- the slots of the t-th memory type, none where there is no such type
abbrev pub slots_at : {H : Type 0} → Slots H → (t : ℕ) → List (Option (Slot H))
slots_at slots t = slice_index_or slots t []

-- the live block in a slot of a memory type
abbrev pub block_at : {H : Type 0} → Slots H → (t i : ℕ) → Option (Slot H)
block_at slots t i = slot_at (slots_at slots t) i

-- the sum of the sizes of the live blocks
abbrev pub total_capacity : {H : Type 0} → Slots H → ℕ
total_capacity slots = sum_by (λ s. capacity_of s) slots

-- the blocks of all memory types are well formed, with pages of that size
abbrev pub BlocksWellFormed : {H : Type 0} → (granularity : ℕ) → Slots H → Type 0
BlocksWellFormed granularity slots = (t : ℕ) → AreSound granularity (slots_at slots t)

-- of each memory type at most one block is without pieces, and it is a shared one
abbrev pub EachKeepsOneEmptyAtMost : {H : Type 0} → Slots H → Type 0
EachKeepsOneEmptyAtMost slots = (t : ℕ) → KeepsOneEmptyAtMost (slots_at slots t)
