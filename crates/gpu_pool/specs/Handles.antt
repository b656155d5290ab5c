-- The handles of the live blocks.
use Rattle.std.specs.Prelude.{ℕ, ◌+◌, List, [], ◌∷◌, ◌++◌, drop, Option, Some, None}
use Rattle.gpu_core.specs.TypeState.{Slot}
use Rattle.gpu_core.specs.Blocks.{Slots, slots_at}

-- of the blocks in these slots, in order
abbrev pub handles_in : {H : Type 0} → List (Option (Slot H)) → List H
handles_in [] = []
handles_in (None ∷ ss) = handles_in ss
handles_in (Some s ∷ ss) = s.handle ∷ handles_in ss

-- of all live blocks by memory type, then by slot
abbrev pub all_handles : {H : Type 0} → Slots H → List H
all_handles [] = []
all_handles (s ∷ ss) = handles_in s ++ all_handles ss

-- of the live blocks from the i-th slot of the t-th memory type on
abbrev pub handles_from : {H : Type 0} → (t i : ℕ) → Slots H → List H
handles_from t i slots = handles_in (drop i (slots_at slots t)) ++ all_handles (drop (t + 1) slots)
