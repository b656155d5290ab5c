-- A block of memory: one that is cut into pieces, or one that is one piece's own.
use Rattle.std.specs.Prelude.{◌≡◌, ◌≢◌, ◌⊎◌, ℕ, ◌+◌, Contains, List, Bool, true, false, Option, IfSome, IsSome}
use Rattle.std.specs.Int.NonZero.{non_zero_u64_get}
use Rattle.std.specs.declared.num.NonZeroU64.{NonZeroU64}
use Rattle.gpu_values.specs.declared.error.AllocationError.{AllocationError}
use Rattle.gpu_block_pieces.specs.FreeList.{Extent, FreeList, SomeExtent, IsGap, extent_bytes}
use Rattle.gpu_block_pieces.specs.Request.{Request}
use Rattle.gpu_cost.specs.Cost.{Counts, Rises}
use Rattle.gpu_block_pieces.specs.Place.{HasNoPlace}
use Rattle.gpu_block_pieces.specs.Search.{IsSearch}
use Rattle.gpu_block_pieces.specs.Changes.{Said, named, worded, Takes, Releases, Relabels}
use Rattle.gpu_values.specs.Refusal.{Refusal, refusal_of}
use Rattle.gpu_block_pieces.specs.BlockRefusal.{IsAllocateRefusal, release_refusal, IsRenameRefusal}
use Rattle.gpu_block.specs.Dedicated.{Dedicated, held_extents, IsWhole, DedicatedTakes, IsDedicatedAllocateRefusal, DedicatedReleases, IsDedicatedReleaseRefusal, DedicatedRelabels}
use Rattle.gpu_block.specs.Dedicated.{IsDedicatedRenameRefusal}
use Rattle.gpu_block_pieces.specs.Laws.{IsSound, IsInOrder, IsPageSeparated, IsLongEnough, IsForChunkIds, IsCovered}

-- either form
pub data Block : Type 0 where
  free_list : FreeList → Block
  dedicated : Dedicated → Block

-- the live pieces, in the order of their starts
abbrev pub extents_of : Block → List Extent
extents_of (free_list b) = b.extents
extents_of (dedicated b) = held_extents b

-- its size in bytes
abbrev pub size_of : Block → ℕ
size_of (free_list b) = b.size
size_of (dedicated b) = b.size

-- the block has a live piece of that number, offset and size
abbrev pub HoldsPiece : Block → (chunk_id offset size : ℕ) → Type 0
HoldsPiece b chunk_id offset size = (x : Extent) × Contains (extents_of b) x × (x.chunk_id ≡ chunk_id) × (x.offset ≡ offset) × (x.end ≡ offset + size)

-- the bytes of the live pieces, padding included
abbrev pub allocated_bytes : Block → ℕ
allocated_bytes b = extent_bytes (extents_of b)

-- whether the block serves requests of any size
abbrev pub is_shared : Block → Bool
is_shared (free_list b) = true
is_shared (dedicated b) = false

-- the page size that a request names is the block's; a dedicated block has none
abbrev pub HasPages : Block → ℕ → Type 0
HasPages (free_list b) granularity = granularity ≡ b.granularity
HasPages (dedicated b) granularity = Unit {0}

-- ---- the changes: a block stays one of its form

-- what a take leaves
abbrev pub TakesIn : Block → Request → (offset chunk_id : ℕ) → Block → Type 0
TakesIn (free_list old) r offset chunk_id (free_list new) = Takes old r offset chunk_id new
TakesIn (free_list old) r offset chunk_id (dedicated new) = ⊥
TakesIn (dedicated old) r offset chunk_id (free_list new) = ⊥
TakesIn (dedicated old) r offset chunk_id (dedicated new) = DedicatedTakes old r offset chunk_id new

-- what a release leaves
abbrev pub ReleasesIn : Block → ℕ → Block → Type 0
ReleasesIn (free_list old) chunk_id (free_list new) = Releases old chunk_id new
ReleasesIn (free_list old) chunk_id (dedicated new) = ⊥
ReleasesIn (dedicated old) chunk_id (free_list new) = ⊥
ReleasesIn (dedicated old) chunk_id (dedicated new) = DedicatedReleases old chunk_id new

-- what a new name or word leaves
abbrev pub RelabelsIn : Block → ℕ → Said → Block → Type 0
RelabelsIn (free_list old) chunk_id said (free_list new) = Relabels old chunk_id said new
RelabelsIn (free_list old) chunk_id said (dedicated new) = ⊥
RelabelsIn (dedicated old) chunk_id said (free_list new) = ⊥
RelabelsIn (dedicated old) chunk_id said (dedicated new) = DedicatedRelabels old chunk_id said new

abbrev pub RenamesIn : Block → ℕ → List ℕ → Block → Type 0
RenamesIn old chunk_id name new = RelabelsIn old chunk_id (named name) new

abbrev pub SetsWordIn : Block → (chunk_id word : ℕ) → Block → Type 0
SetsWordIn old chunk_id word new = RelabelsIn old chunk_id (worded word) new

-- ---- why a call is refused

-- the request has no place in a free list; a dedicated block is taken, or of another size
abbrev pub HasNoPlaceIn : Block → Request → Type 0
HasNoPlaceIn (free_list b) r = HasNoPlace b r
HasNoPlaceIn (dedicated b) r = IsSome b.piece ⊎ (r.size ≢ b.size)

-- why a take is refused
abbrev pub IsAllocateRefusalIn : Block → Request → AllocationError → Type 0
IsAllocateRefusalIn (free_list b) r e = IsAllocateRefusal b r e
IsAllocateRefusalIn (dedicated b) r e = IsDedicatedAllocateRefusal b r (refusal_of e)

-- why a release is refused
abbrev pub IsReleaseRefusalIn : Block → Option NonZeroU64 → Refusal → Type 0
IsReleaseRefusalIn (free_list b) id refusal =
    (refusal ≡ release_refusal id) × IfSome id (λ n. SomeExtent b (λ x. x.chunk_id ≡ non_zero_u64_get n) → ⊥)
IsReleaseRefusalIn (dedicated b) id refusal = IsDedicatedReleaseRefusal b id refusal

-- why a new name or word is refused
abbrev pub IsRenameRefusalIn : Block → Option NonZeroU64 → Refusal → Type 0
IsRenameRefusalIn (free_list b) id refusal = IsRenameRefusal b id refusal
IsRenameRefusalIn (dedicated b) id refusal = IsDedicatedRenameRefusal b id refusal

-- ---- laws

-- a free list is sound; a dedicated block's piece is the whole block, with number 1
abbrev pub IsSoundBlock : Block → Type 0
IsSoundBlock (free_list b) = IsSound b
IsSoundBlock (dedicated b) = IsWhole b

-- a free list's extents and gaps stand in order; a dedicated block has one piece at most
abbrev pub IsOrderedBlock : Block → Type 0
IsOrderedBlock (free_list b) = IsInOrder b
IsOrderedBlock (dedicated b) = Unit {0}

-- two live pieces of different kinds share no page; a dedicated block has no two
abbrev pub HasPagesApart : Block → Type 0
HasPagesApart (free_list b) = IsPageSeparated b
HasPagesApart (dedicated b) = Unit {0}

-- a free list's extents and gaps cover it exactly; a dedicated block has no gaps
abbrev pub IsCoveredBlock : Block → Type 0
IsCoveredBlock (free_list b) = IsCovered b
IsCoveredBlock (dedicated b) = Unit {0}

-- in a free list a gap that is long enough is refused for lack of numbers or of host memory alone
abbrev pub IsFitLaw : Block → Request → AllocationError → Type 0
IsFitLaw (free_list b) r e = (s t : ℕ) → IsGap b s t → IsLongEnough b r s t → IsForChunkIds b e
IsFitLaw (dedicated b) r e = Unit {0}

-- a search of a free list; a dedicated block is not searched
unfoldable pub IsSearchIn : Block → Request → Counts → Counts → Type 0
IsSearchIn (free_list b) r old new = IsSearch b r old new
IsSearchIn (dedicated b) r old new = new ≡ old

-- no count of a block's searches falls
unfoldable pub CountsRise : Counts → Counts → Type 0
CountsRise old new = Rises old new
