-- A block is put into an empty slot, or at the end: what the slots and their sums are then.
use Rattle.std.proofs.Common.{◌≡◌, ◌<◌, ℕ, List, [], ◌∷◌, ◌++◌, length, Option, Some, arith, slice_set}
use Rattle.std.proofs.lemmas.List.{map-append, map-set, length-map}
use Rattle.std.proofs.lemmas.Grind.{common_steps}
use Rattle.std.specs.Option.{option_map}
use Rattle.gpu_core.specs.TypeTake.{with_block}
use Rattle.gpu_core.specs.Slots.{slot_of, slots_of}
use Rattle.gpu_core.specs.declared.slot.LiveBlock.{LiveBlock}

pub put_slots : {H : Type 0} (xs : List (Option (LiveBlock H))) (i : ℕ) (b : LiveBlock H) → i < length xs → slots_of (slice_set xs i (Some b)) ≡ with_block (slots_of xs) i (slot_of b)
put_slots xs i b below =
    let within : i < length (slots_of xs) = rw (length-map xs (option_map slot_of)) below in
    rw (map-set (option_map slot_of) xs i (Some b)) (grind (arith, common_steps, within))

pub push_slots : {H : Type 0} (xs : List (Option (LiveBlock H))) (b : LiveBlock H) → slots_of (xs ++ Some b ∷ []) ≡ with_block (slots_of xs) (length xs) (slot_of b)
push_slots xs b = rw (map-append (option_map slot_of) xs (Some b ∷ []), ← length-map xs (option_map slot_of)) (grind (arith, common_steps))
