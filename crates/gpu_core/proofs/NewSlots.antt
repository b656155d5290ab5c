-- The slot of a new block: an empty one, or the end.
use Rattle.std.proofs.Common.{◌≡◌, ℕ, ◌<◌, ◌≤◌, Bool, true, false, List, [], ◌∷◌, ◌++◌, length, refl, sym, subst, arith, Option, Some, None, slice_set}
use Rattle.std.proofs.lemmas.Grind.{common_steps}
use Rattle.gpu_core.specs.TypeState.{Slot, lowest_empty, highest_empty}
use Rattle.gpu_core.specs.TypeTake.{new_slot, with_block}
use Rattle.gpu_core.specs.Slots.{IsEmptyAt}
use Rattle.gpu_core.proofs.Slotted.{OnlyAt, set_only, end_only}
use Rattle.gpu_core.proofs.EmptySlots.{lowest_found, highest_empty_found}

-- a new block's slot is empty, or it is the end
pub data IsNewSlot {H : Type 0} (slots : List (Option (Slot H))) (i : ℕ) : Type 0 where
  empty_slot : IsEmptyAt slots i → IsNewSlot slots i
  the_end : i ≡ length slots → IsNewSlot slots i

lowest_new : {H : Type 0} (slots : List (Option (Slot H))) (o : Option ℕ) → lowest_empty slots ≡ o → IsNewSlot slots (new_slot true slots)
lowest_new slots None e = the_end (rw e refl)
lowest_new slots (Some i) e = rw e (empty_slot (lowest_found slots i e))

highest_new : {H : Type 0} (slots : List (Option (Slot H))) (o : Option ℕ) → highest_empty slots ≡ o → IsNewSlot slots (new_slot false slots)
highest_new slots None e = the_end (rw e refl)
highest_new slots (Some i) e = rw e (empty_slot (highest_empty_found slots i e))

pub is_new_slot : {H : Type 0} (is_dedicated : Bool) (slots : List (Option (Slot H))) → IsNewSlot slots (new_slot is_dedicated slots)
is_new_slot true slots = lowest_new slots (lowest_empty slots) refl
is_new_slot false slots = highest_new slots (highest_empty slots) refl

-- it isn't past the end
pub new_within : {H : Type 0} (slots : List (Option (Slot H))) (i : ℕ) → IsNewSlot slots i → i ≤ length slots
new_within slots i (empty_slot at) = (let below = at.below in omega arith)
new_within slots i (the_end at) = omega arith

pub with_empty : {H : Type 0} (slots : List (Option (Slot H))) (i : ℕ) (s : Slot H) → i < length slots → with_block slots i s ≡ slice_set slots i (Some s)
with_empty slots i s below = grind (arith, common_steps, below)

pub with_end : {H : Type 0} (slots : List (Option (Slot H))) (i : ℕ) (s : Slot H) → i ≡ length slots → with_block slots i s ≡ slots ++ Some s ∷ []
with_end slots i s e = grind (arith, common_steps, e)

-- the new block's slot alone is changed
pub put_only : {H : Type 0} (slots : List (Option (Slot H))) (i : ℕ) (s : Slot H) → IsNewSlot slots i → OnlyAt slots i (Some s) (with_block slots i s)
put_only slots i s (empty_slot at) = subst (OnlyAt slots i (Some s)) (sym (with_empty slots i s at.below)) (set_only slots i (Some s) at.below)
put_only slots i s (the_end at) = subst (OnlyAt slots i (Some s)) (sym (with_end slots i s at)) (subst (λ k. OnlyAt slots k (Some s) (slots ++ Some s ∷ [])) (sym at) (end_only slots (Some s)))
