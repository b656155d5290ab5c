-- The slots of a memory type as its code keeps them, and the changes of one slot.
use Rattle.std.specs.Prelude.{◌≡◌, ◌≢◌, ℕ, ◌<◌, Bool, true, List, length, Option, Some, None, cond, map, Contains, slice_index}
use Rattle.std.specs.Option.{option_map}
use Rattle.gpu_core.specs.declared.slot.LiveBlock.{LiveBlock}
use Rattle.gpu_core.specs.declared.slot.ReleasedBlock.{ReleasedBlock}
use Rattle.gpu_core.specs.declared.slots.Notes.{Notes}
use Rattle.gpu_core.specs.declared.slot.Finding.{Finding}
use Rattle.gpu_core.specs.declared.slot.Finding.TheVariants as findings
use Rattle.gpu_block_pieces.specs.Request.{Request}
use Rattle.gpu_block.specs.SubAllocator.{block_of}
use Rattle.gpu_block.specs.Block.{extents_of, is_shared, TakesIn, HasPages, IsSoundBlock, HasPagesApart}
use Rattle.gpu_block_pieces.specs.FreeList.{Extent}
use Rattle.gpu_core.specs.TypeState.{Slot, slot_at}
use Rattle.gpu_core.specs.TypeTake.{CannotServe}
use Rattle.gpu_core.specs.TypeRelease.{SlotHolds, Goes}
use Rattle.gpu_core.specs.declared.piece.Piece.{Piece}
use Rattle.std.specs.Int.NonZero.{non_zero_u64_get}

abbrev pub slot_of : {H : Type 0} → LiveBlock H → Slot H
slot_of b = record { handle = b.handle; block = block_of b.sub }

abbrev pub slots_of : {H : Type 0} → List (Option (LiveBlock H)) → List (Option (Slot H))
slots_of slots = map (option_map slot_of) slots

-- what a contract sees of the slots: which there are, and for how many there is host memory
pub record SlotList (H : Type 0) : Type 0 where
  pub slots : List (Option (Slot H))
  pub room : ℕ

-- the slot serves no request of more bytes
abbrev pub Bounds : {H : Type 0} → ℕ → Option (Slot H) → Type 0
Bounds longest s = (r : Request) → longest < r.size → CannotServe r s

-- how many blocks it has a place for
abbrev pub vacancies : {H : Type 0} → Option (Slot H) → ℕ
vacancies None = 1
vacancies (Some s) = 0

-- of each slot its bound and its vacancies are noted
pub record AreNoted {H : Type 0} (notes : Notes) (slots : List (Option (Slot H))) : Type 0 where
  pub as_long : length notes.longest.marks ≡ length slots
  pub as_many : length notes.vacant.marks ≡ length slots
  pub bounded : (i : ℕ) → Bounds (slice_index notes.longest.marks i) (slot_at slots i)
  pub counted : (i : ℕ) → i < length slots → slice_index notes.vacant.marks i ≡ vacancies (slot_at slots i)

-- the same of each slot but one
pub record OthersAreNoted {H : Type 0} (one : ℕ) (notes : Notes) (slots : List (Option (Slot H))) : Type 0 where
  pub as_long : length notes.longest.marks ≡ length slots
  pub as_many : length notes.vacant.marks ≡ length slots
  pub bounded : (i : ℕ) → i ≢ one → Bounds (slice_index notes.longest.marks i) (slot_at slots i)
  pub counted : (i : ℕ) → i ≢ one → i < length slots → slice_index notes.vacant.marks i ≡ vacancies (slot_at slots i)

-- a slot's block has the type's pages and is sound, and its pieces of different kinds share no page
abbrev pub SlotIsSound : {H : Type 0} → ℕ → Option (Slot H) → Type 0
SlotIsSound granularity None = Unit {0}
SlotIsSound granularity (Some s) = HasPages s.block granularity × IsSoundBlock s.block × HasPagesApart s.block

abbrev pub AreSound : {H : Type 0} → ℕ → List (Option (Slot H)) → Type 0
AreSound granularity slots = (i : ℕ) → SlotIsSound granularity (slot_at slots i)

-- a piece was taken of a shared block
abbrev pub SlotTakes : {H : Type 0} → Option (Slot H) → Request → (offset chunk_id : ℕ) → H → Option (Slot H) → Type 0
SlotTakes (Some old) r offset chunk_id device (Some new) =
    (is_shared old.block ≡ true) × (device ≡ old.handle) × (new.handle ≡ old.handle) × TakesIn old.block r offset chunk_id new.block
SlotTakes None r offset chunk_id device new = ⊥
SlotTakes (Some old) r offset chunk_id device None = ⊥

-- the i-th slot is empty
pub record IsEmptyAt {H : Type 0} (slots : List (Option (Slot H))) (i : ℕ) : Type 0 where
  pub below : i < length slots
  pub empty : slot_at slots i ≡ None

-- what a look for a piece finds: its record, another one under its number, or nothing under that
abbrev pub Finds : {H : Type 0} → (H → H → Bool) → Piece H → Slot H → Finding → Type 0
Finds eq p s findings.Piece = SlotHolds eq p (Some s)
Finds eq p s findings.Other = (SlotHolds eq p (Some s) → ⊥) × ((x : Extent) × Contains (extents_of s.block) x × (x.chunk_id ≡ non_zero_u64_get p.chunk_id))
Finds eq p s findings.Nothing = (x : Extent) → Contains (extents_of s.block) x → x.chunk_id ≡ non_zero_u64_get p.chunk_id → ⊥

-- a slot's block stays, or goes where it is empty and dedicated or one of several shared ones
abbrev pub Settles : {H : Type 0} → (several : Type 0) → Option (Slot H) → Option H → Option (Slot H) → Type 0
Settles several (Some old) went (Some new) = (went ≡ None) × (new ≡ old) × (Goes several old.block → ⊥)
Settles several (Some old) went None = (went ≡ Some old.handle) × Goes several old.block
Settles several None went None = went ≡ None
Settles several None went (Some new) = ⊥

-- of a block that went, if one did: the driver's handle of it, the bytes that went with it, and 1 where it was shared
abbrev pub released_handle : {H : Type 0} → Option (ReleasedBlock H) → Option H
released_handle None = None
released_handle (Some went) = Some went.handle

abbrev pub released_size : {H : Type 0} → Option (ReleasedBlock H) → ℕ
released_size None = 0
released_size (Some went) = went.size

abbrev pub released_shared : {H : Type 0} → Option (ReleasedBlock H) → ℕ
released_shared None = 0
released_shared (Some went) = cond went.is_shared 1 0
