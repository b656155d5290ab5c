-- The bytes of an allocator as its callers see them: a list of its own for each live piece in mapped memory, and a rest of each block that no piece sees.
use Rattle.std.specs.Prelude.{◌≡◌, ℕ, ◌+◌, ◌-◌, ◌<◌, ◌==◌, ◌&&◌, nat_le, nat_lt, Bool, true, false, if◌then◌else◌, List, length, slice_get, Option, Some, None}
use Rattle.std.specs.List.{find, list_any}
use Rattle.gpu_block.specs.Block.{extents_of}
use Rattle.gpu_block_pieces.specs.FreeList.{Extent}
use Rattle.gpu_core.specs.TypeState.{Slot}
use Rattle.gpu_device.specs.Held.{Held, bytes_of, range_in}
use Rattle.gpu_device.specs.declared.vulkan.types.DeviceMemory.{DeviceMemory}
use Rattle.gpu_vulkan.specs.Blocks.{Slots}
use Rattle.gpu_core.specs.Blocks.{block_at}

-- where a live piece stands: its memory type, its slot there, and its number in that block
pub record AllocationId : Type 0 where
  pub memory_type : ℕ
  pub slot : ℕ
  pub chunk_id : ℕ

abbrev pub is_same_id : AllocationId → AllocationId → Bool
is_same_id p q = (p.memory_type == q.memory_type) && ((p.slot == q.slot) && (p.chunk_id == q.chunk_id))

-- the list of each live piece in mapped memory, and the bytes of each mapped block at which no live piece lies
pub record ByteView : Type 0 where
  pub allocation_bytes : AllocationId → Option (List ℕ)
  pub unallocated_bytes : (memory_type slot at : ℕ) → Option ℕ

-- ---- computed from the one list of bytes that the device has for each mapped block

-- the live piece of a number
abbrev pub piece_of_number : List Extent → ℕ → Option Extent
piece_of_number xs number = find (λ x. x.chunk_id == number) xs

-- the byte lies in the piece; its padding is no part of it
abbrev pub covers : Extent → ℕ → Bool
covers x at = nat_le x.offset at && nat_lt at x.end

abbrev pub is_covered : List Extent → ℕ → Bool
is_covered xs at = list_any (λ x. covers x at) xs

abbrev pub byte_at : Option (List ℕ) → ℕ → Option ℕ
byte_at None at = None
byte_at (Some xs) at = slice_get xs at

-- a piece's part of its block's bytes
abbrev pub piece_bytes : Option (List ℕ) → Option Extent → Option (List ℕ)
piece_bytes bytes None = None
piece_bytes bytes (Some x) = range_in x.offset (x.end - x.offset) bytes

abbrev pub list_in : Held → Option (Slot DeviceMemory) → (number : ℕ) → Option (List ℕ)
list_in held None number = None
list_in held (Some s) number = piece_bytes (bytes_of held s.handle.0) (piece_of_number (extents_of s.block) number)

abbrev pub rest_in : Held → Option (Slot DeviceMemory) → (at : ℕ) → Option ℕ
rest_in held None at = None
rest_in held (Some s) at = if is_covered (extents_of s.block) at then None else byte_at (bytes_of held s.handle.0) at

abbrev pub byte_view_of : Held → Slots → ByteView
byte_view_of held slots = record {
  allocation_bytes = λ p. list_in held (block_at slots p.memory_type p.slot) p.chunk_id;
  unallocated_bytes = λ t i at. rest_in held (block_at slots t i) at;
}

-- ---- how they change

-- the byte lies in the `size` bytes from `start` on of the place's block
abbrev pub lies_in : AllocationId → (start size : ℕ) → (memory_type slot at : ℕ) → Bool
lies_in p start size t i at = ((p.memory_type == t) && (p.slot == i)) && (nat_le start at && nat_lt at (start + size))

-- the list of a new piece: none where its memory isn't mapped, else the bytes that its place had in the rest
abbrev pub IsOutOf : (mapped : Bool) → (rest : ℕ → Option ℕ) → (start size : ℕ) → Option (List ℕ) → Type 0
IsOutOf false rest start size list = list ≡ None
IsOutOf true rest start size None = ⊥
IsOutOf true rest start size (Some xs) = (length xs ≡ size) × ((k : ℕ) → k < size → slice_get xs k ≡ rest (start + k))

-- a piece is given: its list is taken out of the rest as it is
pub record SplitsRest (mapped : Bool) (p : AllocationId) (start size : ℕ) (old new : ByteView) : Type 0 where
  pub fresh : old.allocation_bytes p ≡ None
  pub list : IsOutOf mapped (old.unallocated_bytes p.memory_type p.slot) start size (new.allocation_bytes p)
  pub others : (q : AllocationId) → is_same_id p q ≡ false → new.allocation_bytes q ≡ old.allocation_bytes q
  pub unallocated_bytes : (t i at : ℕ) → new.unallocated_bytes t i at ≡ (if lies_in p start size t i at then None else old.unallocated_bytes t i at)

-- a piece goes: its list joins the rest
pub record JoinsRest (p : AllocationId) (start size : ℕ) (old new : ByteView) : Type 0 where
  pub gone : new.allocation_bytes p ≡ None
  pub others : (q : AllocationId) → is_same_id p q ≡ false → new.allocation_bytes q ≡ old.allocation_bytes q
  pub unallocated_bytes : (t i at : ℕ) → new.unallocated_bytes t i at ≡ (if lies_in p start size t i at then byte_at (old.allocation_bytes p) (at - start) else old.unallocated_bytes t i at)

-- a block is new: its bytes, where it is mapped, are rest
pub record AddsBlock (t i : ℕ) (bytes : Option (List ℕ)) (old new : ByteView) : Type 0 where
  pub allocation_bytes : (q : AllocationId) → new.allocation_bytes q ≡ old.allocation_bytes q
  pub unallocated_bytes : (u j at : ℕ) → new.unallocated_bytes u j at ≡ (if (t == u) && (i == j) then byte_at bytes at else old.unallocated_bytes u j at)

-- a block goes, with all its bytes
pub record DropsBlock (t i : ℕ) (old new : ByteView) : Type 0 where
  pub allocation_bytes : (q : AllocationId) → new.allocation_bytes q ≡ old.allocation_bytes q
  pub unallocated_bytes : (u j at : ℕ) → new.unallocated_bytes u j at ≡ (if (t == u) && (i == j) then None else old.unallocated_bytes u j at)

-- a piece's list is written, and nothing else changes
pub record Writes (p : AllocationId) (ws : List ℕ) (old new : ByteView) : Type 0 where
  pub was : (xs : List ℕ) × (old.allocation_bytes p ≡ Some xs) × (length ws ≡ length xs)
  pub list : new.allocation_bytes p ≡ Some ws
  pub others : (q : AllocationId) → is_same_id p q ≡ false → new.allocation_bytes q ≡ old.allocation_bytes q
  pub unallocated_bytes : (t i at : ℕ) → new.unallocated_bytes t i at ≡ old.unallocated_bytes t i at
