-- What a request leads to in a memory type: a piece of a shared block, or the need of a new block.
use Rattle.std.specs.Prelude.{◌≡◌, ℕ, ◌<◌, ◌≤◌, ◌||◌, ◌++◌, nat_lt, Bool, true, false, List, [], ◌∷◌, length, Option, Some, None, cond}
use Rattle.std.specs.List.{slice_set}
use Rattle.std.specs.Option.{unwrap_or, is_some}
use Rattle.std.specs.Int.NonZero.{non_zero_u64_get}
use Rattle.gpu_block_pieces.specs.FreeList.{fresh_free_list}
use Rattle.gpu_block.specs.Dedicated.{empty_dedicated}
use Rattle.gpu_block_pieces.specs.Request.{Request}
use Rattle.gpu_block_pieces.specs.Place.{HasNoPlace}
use Rattle.gpu_block.specs.Block.{Block, free_list, dedicated, is_shared, TakesIn}
use Rattle.gpu_values.specs.Sizes.{Sizes, shared_block_size}
use Rattle.gpu_core.specs.TypeState.{Slot, TypeState, shared_count, slot_at, lowest_empty, highest_empty}
use Rattle.gpu_core.specs.declared.piece.Piece.{Piece}
use Rattle.gpu_core.specs.declared.piece.Request as type_requests

-- what a block sees of a request to its type
abbrev pub asked : type_requests.Request → Request
asked r = record { size = r.size; alignment = r.alignment; kind = r.kind; name = r.name.now }

-- the size of the type's next shared block
abbrev pub next_shared_size : {H : Type 0} → TypeState H → Sizes → ℕ
next_shared_size t sizes = shared_block_size sizes t.is_host (shared_count t.slots)

-- whether a request has a block of its own: it asks for one, or is above the size of the next shared block
abbrev pub has_dedicated_block : {H : Type 0} → TypeState H → Sizes → (is_dedicated : Bool) → (size : ℕ) → Bool
has_dedicated_block t sizes is_dedicated size = is_dedicated || nat_lt (next_shared_size t sizes) size

-- a block that can't serve the request: it is dedicated or has no place
abbrev pub BlockCannotServe : Request → Block → Type 0
BlockCannotServe r (free_list b) = HasNoPlace b r
BlockCannotServe r (dedicated b) = Unit {0}

-- a slot that can't serve the request: it is empty, or its block can't
abbrev pub CannotServe : {H : Type 0} → Request → Option (Slot H) → Type 0
CannotServe r None = Unit {0}
CannotServe r (Some s) = BlockCannotServe r s.block

-- the piece lies in the shared block of the highest slot that has a place, and that block alone changes
pub record PreparesPiece {H : Type 0} (old : List (Option (Slot H))) (r : Request) (p : Piece H) (new : List (Option (Slot H))) : Type 0 where
  pub slot : Slot H
  pub after : Block
  pub at : slot_at old p.slot ≡ Some slot
  pub shared : is_shared slot.block ≡ true
  pub takes : TakesIn slot.block r p.offset (non_zero_u64_get p.chunk_id) after
  pub highest : (i : ℕ) → p.slot < i → CannotServe r (slot_at old i)
  pub handle : p.handle ≡ slot.handle
  pub size : p.size ≡ r.size
  pub slots : new ≡ slice_set old p.slot (Some (record slot { block = after }))

-- no shared block has a place
abbrev pub NoneServes : {H : Type 0} → List (Option (Slot H)) → Request → Type 0
NoneServes slots r = (i : ℕ) → CannotServe r (slot_at slots i)

-- no shared block in a slot from `first` on has a place
abbrev pub NoneServesFrom : {H : Type 0} → List (Option (Slot H)) → Request → (first : ℕ) → Type 0
NoneServesFrom slots r first = (i : ℕ) → first ≤ i → CannotServe r (slot_at slots i)

abbrev pub fresh_block : (is_dedicated : Bool) → (size granularity : ℕ) → Block
fresh_block true size granularity = dedicated (empty_dedicated size)
fresh_block false size granularity = free_list (fresh_free_list size granularity 2)

-- a new block with the request's piece taken in it, which waits for the device's memory
pub record Pending : Type 0 where
  pub block : Block
  pub offset : ℕ
  pub chunk_id : ℕ
  pub size : ℕ

-- which block a request needs; the piece begins at its start
pub record NeedsBlock {H : Type 0} (t : TypeState H) (sizes : Sizes) (requests_dedicated : Bool) (r : Request) (size : ℕ) (is_dedicated : Bool) (ready : Pending) : Type 0 where
  pub kind : is_dedicated ≡ has_dedicated_block t sizes requests_dedicated r.size
  pub size_is : size ≡ cond is_dedicated r.size (next_shared_size t sizes)
  pub none : is_dedicated ≡ false → NoneServes t.slots r
  pub takes : TakesIn (fresh_block is_dedicated size t.granularity) r ready.offset ready.chunk_id ready.block
  pub piece : ready.size ≡ r.size
  pub begins : ready.offset ≡ 0

-- there is host memory for one more block
abbrev pub has_room : {H : Type 0} → TypeState H → Bool
has_room t = is_some (highest_empty t.slots) || nat_lt (length t.slots) t.room

-- where a new block goes: a dedicated one into the lowest empty slot, a shared one into the highest, without an empty slot at the end
abbrev pub new_slot : {H : Type 0} → (is_dedicated : Bool) → List (Option (Slot H)) → ℕ
new_slot is_dedicated slots = unwrap_or (cond is_dedicated (lowest_empty slots) (highest_empty slots)) (length slots)

abbrev pub with_block : {H : Type 0} → List (Option (Slot H)) → ℕ → Slot H → List (Option (Slot H))
with_block slots i s = cond (nat_lt i (length slots)) (slice_set slots i (Some s)) (slots ++ Some s ∷ [])

-- the new block stands in its slot, and the piece is the one taken in it
pub record Installs {H : Type 0} (old : List (Option (Slot H))) (is_dedicated : Bool) (ready : Pending) (handle : H) (p : Piece H) (new : List (Option (Slot H))) : Type 0 where
  pub slot : p.slot ≡ new_slot is_dedicated old
  pub piece : (p.offset ≡ ready.offset) × (non_zero_u64_get p.chunk_id ≡ ready.chunk_id) × (p.size ≡ ready.size) × (p.handle ≡ handle)
  pub slots : new ≡ with_block old (new_slot is_dedicated old) (record { handle = handle; block = ready.block })
