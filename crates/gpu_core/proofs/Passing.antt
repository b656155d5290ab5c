-- Slots that are passed over serve no request.
use Rattle.std.proofs.Common.{ℕ, ◌<◌, ◌≤◌, List, length, Option, subst, sym, inl, inr}
use Rattle.std.specs.Prelude.{slice_index}
use Rattle.std.proofs.lemmas.Bool.{cases_lt}
use Rattle.gpu_block_pieces.specs.Request.{Request}
use Rattle.gpu_core.specs.TypeState.{Slot, slot_at}
use Rattle.gpu_core.specs.TypeTake.{CannotServe}
use Rattle.gpu_core.specs.Slots.{AreNoted}
use Rattle.gpu_core.specs.declared.slots.Notes.{Notes}
use Rattle.gpu_core.proofs.Noted.{past_slots}

-- none behind the slots serves
pub none_behind : {H : Type 0} (slots : List (Option (Slot H))) (r : Request) (i : ℕ) → length slots ≤ i → CannotServe r (slot_at slots i)
none_behind slots r i le = subst (CannotServe r) (sym (past_slots slots i le)) tt

pub none_passed : {H : Type 0} (notes : Notes) (slots : List (Option (Slot H))) (r : Request) (below end : ℕ) → AreNoted notes slots
    → ((i : ℕ) → below ≤ i → i < end → slice_index notes.longest.marks i < r.size)
    → ((i : ℕ) → end ≤ i → CannotServe r (slot_at slots i))
    → (i : ℕ) → below ≤ i → CannotServe r (slot_at slots i)
none_passed notes slots r below end b passed above i from =
    elim (cases_lt i end) [
      | inl lt ↦ b.bounded i r (passed i from lt)
      | inr ge ↦ above i ge
    ]
