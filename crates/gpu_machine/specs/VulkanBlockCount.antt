-- How many blocks a device may have, of all memory types together (`maxMemoryAllocationCount`).
use Rattle.std.specs.Prelude.{ℕ, nat_le, Bool, false, List, Option, Some, None}
use Rattle.std.specs.List.{count_by, sum_by}
use Rattle.std.specs.Option.{is_some}
use Rattle.gpu_core.specs.Blocks.{Slots}
use Rattle.gpu_core.specs.TypeState.{Slot}

-- how many blocks a memory type has
abbrev pub blocks_of : {H : Type 0} → List (Option (Slot H)) → ℕ
blocks_of slots = count_by (λ slot. is_some slot) slots

abbrev pub block_count : {H : Type 0} → Slots H → ℕ
block_count slots = sum_by (λ of_type. blocks_of of_type) slots

-- one more block would be one too many
abbrev pub has_most : {H : Type 0} → (most : Option ℕ) → Slots H → Bool
has_most None slots = false
has_most (Some most) slots = nat_le most (block_count slots)
