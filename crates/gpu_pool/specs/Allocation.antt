-- An allocation, as its owner holds it, and the piece that it stands for.
use Rattle.std.specs.Prelude.{◌≡◌, ℕ, ◌<◌, ◌%◌, Bool, List, string_bytes, Option, Some, None, Result, Ok, Err}
use Rattle.gpu_values.specs.Refusal.{Refusal, refusal_of}
use Rattle.gpu_values.specs.declared.error.AllocationError.{AllocationError}
use Rattle.gpu_block_pieces.specs.Request.{Request}
use Rattle.gpu_core.specs.declared.piece.Piece.{Piece}
use Rattle.gpu_core.specs.Apart as pieces
use Rattle.gpu_core.specs.Blocks.{Slots}
use Rattle.gpu_pool.specs.Allocate as pools
use Rattle.gpu_pool.specs.Live as live
use Rattle.gpu_pool.specs.Move.{Proposes}
use Rattle.gpu_pool.specs.Rename as renaming
use Rattle.gpu_pool.specs.Source.{result_of}
use Rattle.gpu_pool.specs.State.{State}
use Rattle.gpu_pool.specs.declared.allocation.Allocation.{Allocation}

-- the piece that an allocation stands for
abbrev pub piece_of : {H : Type 0} → Allocation H → Piece H
piece_of a = record { slot = a.memory_block_index; chunk_id = a.chunk_id; offset = a.offset; size = a.size; handle = a.heap }

-- the allocation that is given for a piece of the t-th memory type
pub record IsAllocated {H : Type 0} (t : ℕ) (name : List ℕ) (p : Piece H) (a : Allocation H) : Type 0 where
  pub piece : piece_of a ≡ p
  pub memory_type : a.memory_type_index ≡ t
  pub has_name : string_bytes a.name ≡ name

-- two allocations are different pieces: of another memory type, in another slot, or under another number
abbrev pub AreDistinct : {H : Type 0} → Allocation H → Allocation H → Type 0
AreDistinct a b = pieces.AreDistinct a.memory_type_index (piece_of a) b.memory_type_index (piece_of b)

module _ {H : Type 0} (eq : H → H → Bool) where
  -- the allocator has a record with the allocation's type, slot, number, offset, size and heap
  abbrev pub IsLive : Slots H → Allocation H → Type 0
  IsLive slots a = live.IsLive eq slots a.memory_type_index (piece_of a)

  -- what was live is live
  abbrev pub StayLive : (old new : Slots H) → Type 0
  StayLive old new = (a : Allocation H) → IsLive old a → IsLive new a

  -- the allocation is live, and none that was live before
  abbrev pub IsNewlyLive : (old new : Slots H) → Allocation H → Type 0
  IsNewlyLive old new a = IsLive new a × ((b : Allocation H) → IsLive old b → AreDistinct b a)

-- the caller's allocation is the pool's piece, under the name that was asked for
abbrev pub Returns : {H : Type 0} → (t : ℕ) → (name : List ℕ) → Result (Allocation H) AllocationError → Result (Piece H) Refusal → Type 0
Returns t name (Ok a) (Ok p) = IsAllocated t name p a
Returns t name (Ok a) (Err r) = ⊥
Returns t name (Err e) (Ok p) = ⊥
Returns t name (Err e) (Err r) = refusal_of e ≡ r

-- a piece is allocated, and its owner has it under the request's name
pub record AllocatesNamed {S H X : Type 0} (kinds : List (Bool × ℕ)) (asks : S → ℕ → ℕ → X → Result H Refusal → S → Type 0) (q : pools.RequestAt X)
    (old : State S H) (result : Result (Allocation H) AllocationError) (new : State S H) : Type 0 where
  pub answer : Result (Piece H) Refusal
  pub allocates : pools.PoolAllocates kinds asks q old answer new
  pub returns : Returns q.memory_type q.request.name result answer

-- the allocation has that name, and all else of it is as it was
pub record IsNamed {H : Type 0} (old : Allocation H) (name : List ℕ) (new : Allocation H) : Type 0 where
  pub has_name : string_bytes new.name ≡ name
  pub others : new ≡ record old { name = new.name }

-- the allocation has the name where its record has it
abbrev pub NamesBy : {H : Type 0} → Allocation H → (name : List ℕ) → Result (Unit {0}) AllocationError → Allocation H → Type 0
NamesBy a name (Ok _) b = IsNamed a name b
NamesBy a name (Err e) b = b ≡ a

-- a live piece's record and its allocation are named, or neither is
pub record RenamesNamed {S H : Type 0} (eq : H → H → Bool) (a : Allocation H) (name : List ℕ) (old : State S H) (result : Result (Unit {0}) AllocationError) (b : Allocation H) (new : State S H) : Type 0 where
  pub record_is : renaming.Renames eq a.memory_type_index (piece_of a) name old (result_of result) new
  pub allocation_is : NamesBy a name result b

-- ---- moves

-- a second place for what the first allocation holds: live, and none that was live before; of the same memory type and size, aligned as asked, in a higher slot
pub record IsSecondPlace {H : Type 0} (eq : H → H → Bool) (alignment : ℕ) (old : Slots H) (from to : Allocation H) (new : Slots H) : Type 0 where
  pub live : IsNewlyLive eq old new to
  pub memory_type : to.memory_type_index ≡ from.memory_type_index
  pub size : to.size ≡ from.size
  pub aligned : to.offset % alignment ≡ 0
  pub ahead : from.memory_block_index < to.memory_block_index

-- the caller's allocation is the pool's second place, under the name that was asked for
abbrev pub ReturnsPlace : {H : Type 0} → (t : ℕ) → (name : List ℕ) → Result (Option (Allocation H)) AllocationError → Result (Option (Piece H)) Refusal → Type 0
ReturnsPlace t name (Ok (Some a)) (Ok (Some p)) = IsAllocated t name p a
ReturnsPlace t name (Ok None) (Ok None) = Unit {0}
ReturnsPlace t name (Err e) (Err r) = refusal_of e ≡ r
ReturnsPlace t name _ _ = ⊥

-- a second place is looked for, and the allocation's owner has it under the request's name
pub record ProposesNamed {S H : Type 0} (eq : H → H → Bool) (from : Allocation H) (r : Request) (old : State S H) (result : Result (Option (Allocation H)) AllocationError) (new : State S H) : Type 0 where
  pub answer : Result (Option (Piece H)) Refusal
  pub proposes : Proposes eq from.memory_type_index (piece_of from) r old answer new
  pub returns : ReturnsPlace from.memory_type_index r.name result answer
