-- What a new name and a new word of a piece result in.
use Rattle.std.specs.Prelude.{◌≡◌, ◌≢◌, ℕ, ◌⊎◌, Bool, List, Option}
use Rattle.std.specs.List.{slice_set}
use Rattle.gpu_block_pieces.specs.Changes.{Said, named, worded}
use Rattle.gpu_values.specs.Refusal.{Refusal, host_out_of_memory}
use Rattle.gpu_core.specs.TypeRelease.{IsLive, IsNameRefusal, RelabelsPiece}
use Rattle.gpu_core.specs.TypeState.{Slot, slot_at}
use Rattle.gpu_core.specs.declared.piece.Piece.{Piece}
use Rattle.gpu_core.specs.Blocks.{Slots, slots_at}

-- why a piece isn't named: it is live, and host memory was refused; or it isn't live, and its memory type says why
abbrev pub IsNotNamed : {H : Type 0} → (H → H → Bool) → List (Option (Slot H)) → Piece H → Refusal → Type 0
IsNotNamed eq slots p refusal =
    (IsLive eq slots p × (refusal ≡ host_out_of_memory))
    ⊎ ((IsLive eq slots p → ⊥) × (refusal ≢ host_out_of_memory) × IsNameRefusal eq p (slot_at slots p.slot) refusal)

-- a live piece of the t-th memory type has another name or word, and no other record changes
pub record IsRelabelled {H : Type 0} (eq : H → H → Bool) (t : ℕ) (p : Piece H) (said : Said) (old new : Slots H) : Type 0 where
  pub live : IsLive eq (slots_at old t) p
  pub left : List (Option (Slot H))
  pub renames : RelabelsPiece (slots_at old t) p said left
  pub slots : new ≡ slice_set old t left

abbrev pub IsRenamed : {H : Type 0} → (H → H → Bool) → ℕ → Piece H → List ℕ → Slots H → Slots H → Type 0
IsRenamed eq t p name old new = IsRelabelled eq t p (named name) old new

abbrev pub IsWorded : {H : Type 0} → (H → H → Bool) → ℕ → Piece H → ℕ → Slots H → Slots H → Type 0
IsWorded eq t p word old new = IsRelabelled eq t p (worded word) old new

-- why no word is kept with a piece: it isn't live, and its memory type says why
abbrev pub IsNotWorded : {H : Type 0} → (H → H → Bool) → List (Option (Slot H)) → Piece H → Refusal → Type 0
IsNotWorded eq slots p refusal = (IsLive eq slots p → ⊥) × (refusal ≢ host_out_of_memory) × IsNameRefusal eq p (slot_at slots p.slot) refusal
