-- Which pieces of a memory type are live, and what giving one back or naming it leaves.
use Rattle.std.specs.Prelude.{◌≡◌, ℕ, ◌⊎◌, Bool, true, false, List, [], Option, Some, None, Contains, codes, nat_lt}
use Rattle.std.specs.List.{slice_set}
use Rattle.std.specs.Int.NonZero.{non_zero_u64_get}
use Rattle.gpu_block_pieces.specs.FreeList.{Extent}
use Rattle.gpu_block_pieces.specs.Changes.{Said, named, worded}
use Rattle.gpu_values.specs.Refusal.{Refusal, internal}
use Rattle.gpu_block.specs.Block.{Block, extents_of, is_shared, HoldsPiece, ReleasesIn, IsReleaseRefusalIn, RelabelsIn, IsRenameRefusalIn}
use Rattle.gpu_core.specs.TypeState.{Slot, slot_at, shared_count}
use Rattle.gpu_core.specs.declared.piece.Piece.{Piece}

-- a slot's block has the piece, whole; the device's numbers are compared as their type compares them
abbrev pub SlotHolds : {H : Type 0} → (H → H → Bool) → Piece H → Option (Slot H) → Type 0
SlotHolds eq p None = ⊥
SlotHolds eq p (Some s) = (eq s.handle p.handle ≡ true) × HoldsPiece s.block (non_zero_u64_get p.chunk_id) p.offset p.size

abbrev pub IsLive : {H : Type 0} → (H → H → Bool) → List (Option (Slot H)) → Piece H → Type 0
IsLive eq slots p = SlotHolds eq p (slot_at slots p.slot)

-- a live piece has the number, but the record is another one
abbrev pub IsOther : {H : Type 0} → (H → H → Bool) → Piece H → Slot H → Refusal → Type 0
IsOther eq p s refusal =
    (SlotHolds eq p (Some s) → ⊥)
    × ((x : Extent) × Contains (extents_of s.block) x × (x.chunk_id ≡ non_zero_u64_get p.chunk_id))
    × (refusal ≡ internal (codes "Allocation does not belong to this allocator.") None)

-- why a piece isn't given back: its slot has no block; else the block refuses its number; else the record is another one
abbrev pub IsFreeRefusal : {H : Type 0} → (H → H → Bool) → Piece H → Option (Slot H) → Refusal → Type 0
IsFreeRefusal eq p None refusal = refusal ≡ internal (codes "Memory block must be Some.") None
IsFreeRefusal eq p (Some s) refusal = IsReleaseRefusalIn s.block (Some p.chunk_id) refusal ⊎ IsOther eq p s refusal

-- why a piece gets no other name or word: the same, or host memory was refused, which a word never needs
abbrev pub IsNameRefusal : {H : Type 0} → (H → H → Bool) → Piece H → Option (Slot H) → Refusal → Type 0
IsNameRefusal eq p None refusal = refusal ≡ internal (codes "Memory block must be Some.") None
IsNameRefusal eq p (Some s) refusal = IsRenameRefusalIn s.block (Some p.chunk_id) refusal ⊎ IsOther eq p s refusal

-- the type has more than one shared block
abbrev pub has_others : {H : Type 0} → List (Option (Slot H)) → Bool
has_others slots = nat_lt 1 (shared_count slots)

-- an emptied block goes where it is dedicated or isn't the only shared one
abbrev pub Goes : (several : Type 0) → Block → Type 0
Goes several after = (extents_of after ≡ []) × ((is_shared after ≡ false) ⊎ several)

-- a slot after the release of a piece: its block stays, or it is empty and the block's number is named
abbrev pub SlotReleases : {H : Type 0} → (several : Type 0) → ℕ → Option (Slot H) → Option H → Option (Slot H) → Type 0
SlotReleases several chunk_id (Some old) went (Some new) = (went ≡ None) × (new.handle ≡ old.handle) × ReleasesIn old.block chunk_id new.block × (Goes several new.block → ⊥)
SlotReleases several chunk_id (Some old) went None = (went ≡ Some old.handle) × ((after : Block) × ReleasesIn old.block chunk_id after × Goes several after)
SlotReleases several chunk_id None went new = ⊥

-- the piece went, and its block with it where that is emptied and goes; no other slot changes
pub record ReleasesPiece {H : Type 0} (several : Type 0) (old : List (Option (Slot H))) (p : Piece H) (gone : Option H) (new : List (Option (Slot H))) : Type 0 where
  pub slot : Option (Slot H)
  pub releases : SlotReleases several (non_zero_u64_get p.chunk_id) (slot_at old p.slot) gone slot
  pub slots : new ≡ slice_set old p.slot slot

abbrev pub SlotRelabels : {H : Type 0} → ℕ → Said → Option (Slot H) → Option (Slot H) → Type 0
SlotRelabels chunk_id said (Some old) (Some new) = (new.handle ≡ old.handle) × RelabelsIn old.block chunk_id said new.block
SlotRelabels chunk_id said (Some old) None = ⊥
SlotRelabels chunk_id said None new = ⊥

-- the piece has another name or word, and nothing else changes
pub record RelabelsPiece {H : Type 0} (old : List (Option (Slot H))) (p : Piece H) (said : Said) (new : List (Option (Slot H))) : Type 0 where
  pub slot : Option (Slot H)
  pub renames : SlotRelabels (non_zero_u64_get p.chunk_id) said (slot_at old p.slot) slot
  pub slots : new ≡ slice_set old p.slot slot

abbrev pub RenamesPiece : {H : Type 0} → List (Option (Slot H)) → Piece H → List ℕ → List (Option (Slot H)) → Type 0
RenamesPiece old p name new = RelabelsPiece old p (named name) new

abbrev pub SetsWordOf : {H : Type 0} → List (Option (Slot H)) → Piece H → ℕ → List (Option (Slot H)) → Type 0
SetsWordOf old p word new = RelabelsPiece old p (worded word) new
