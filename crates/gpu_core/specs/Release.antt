-- What freeing a piece of one memory type results in.
use Rattle.std.specs.Prelude.{◌≡◌, ℕ, Bool, List, Option, IsTrue}
use Rattle.std.specs.List.{slice_set}
use Rattle.gpu_values.specs.Refusal.{Refusal}
use Rattle.gpu_core.specs.TypeRelease.{has_others, ReleasesPiece, IsFreeRefusal}
use Rattle.gpu_core.specs.TypeState.{Slot, slot_at}
use Rattle.gpu_core.specs.declared.piece.Piece.{Piece}
use Rattle.gpu_core.specs.Blocks.{Slots, slots_at}

-- a piece of the t-th memory type went, and its block with it where that goes; no other memory type changes
pub record ReleasesAt {H : Type 0} (t : ℕ) (p : Piece H) (old : Slots H) (went : Option H) (new : Slots H) : Type 0 where
  pub left : List (Option (Slot H))
  pub releases : ReleasesPiece (IsTrue (has_others (slots_at old t))) (slots_at old t) p went left
  pub slots : new ≡ slice_set old t left

-- why a piece isn't given back: its memory type says why; one that isn't there has no slot
abbrev pub IsReleaseRefusal : {H : Type 0} → (H → H → Bool) → (t : ℕ) → Slots H → Piece H → Refusal → Type 0
IsReleaseRefusal eq t slots p refusal = IsFreeRefusal eq p (slot_at (slots_at slots t) p.slot) refusal
