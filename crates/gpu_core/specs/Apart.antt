-- What holds of all live pieces: each lies inside its block, no two share a byte, and kinds keep to pages of their own.
use Rattle.std.specs.Prelude.{◌≡◌, ◌≢◌, ◌⊎◌, ℕ, ◌+◌, ◌-◌, ◌<◌, ◌≤◌, List, [], Contains, Option, Some, None}
use Rattle.std.specs.Int.NonZero.{non_zero_u64_get}
use Rattle.gpu_block.specs.Block.{extents_of, size_of}
use Rattle.gpu_block_pieces.specs.FreeList.{Extent}
use Rattle.gpu_block_pieces.specs.Place.{page}
use Rattle.gpu_core.specs.TypeState.{Slot}
use Rattle.gpu_core.specs.declared.piece.Piece.{Piece}
use Rattle.gpu_values.specs.declared.allocation_type.AllocationType.{AllocationType}
use Rattle.gpu_core.specs.Blocks.{Slots, block_at}

-- the block has as many bytes
abbrev pub EndsInside : {H : Type 0} → Option (Slot H) → (end : ℕ) → Type 0
EndsInside None end = ⊥
EndsInside (Some s) end = end ≤ size_of s.block

-- a piece of the t-th memory type ends inside its block
abbrev pub IsInside : {H : Type 0} → Slots H → (t : ℕ) → Piece H → Type 0
IsInside slots t p = EndsInside (block_at slots t p.slot) (p.offset + p.size)

-- two pieces are of different memory types, in different slots, or under different numbers
abbrev pub AreDistinct : {H : Type 0} → (t : ℕ) → Piece H → (u : ℕ) → Piece H → Type 0
AreDistinct t p u q = t ≡ u → p.slot ≡ q.slot → non_zero_u64_get p.chunk_id ≡ non_zero_u64_get q.chunk_id → ⊥

-- two pieces lie in different blocks, or one ends before the other begins
abbrev pub SharesNoByte : {H : Type 0} → (t : ℕ) → Piece H → (u : ℕ) → Piece H → Type 0
SharesNoByte t p u q = (t ≡ u → p.slot ≡ q.slot → ⊥) ⊎ ((p.offset + p.size ≤ q.offset) ⊎ (q.offset + q.size ≤ p.offset))

abbrev pub pieces_in : {H : Type 0} → Option (Slot H) → List Extent
pieces_in None = []
pieces_in (Some s) = extents_of s.block

-- the piece is of the kind
abbrev pub HasKind : {H : Type 0} → Slots H → (t : ℕ) → Piece H → AllocationType → Type 0
HasKind slots t p kind = (x : Extent) × Contains (pieces_in (block_at slots t p.slot)) x × (x.chunk_id ≡ non_zero_u64_get p.chunk_id) × (x.kind ≡ kind)

-- of two pieces of different kinds in one block, the earlier one's last byte lies on a page before that of the later one's first
abbrev pub KeepsPages : {H : Type 0} → (granularity : ℕ) → Slots H → (t : ℕ) → (p q : Piece H) → Type 0
KeepsPages granularity slots t p q =
    p.slot ≡ q.slot → (j k : AllocationType) → HasKind slots t p j → HasKind slots t q k → j ≢ k
    → p.offset + p.size ≤ q.offset → page granularity (p.offset + p.size - 1) < page granularity q.offset
