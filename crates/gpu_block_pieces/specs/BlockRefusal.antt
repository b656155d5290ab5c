-- Why a call on a block is refused.
use Rattle.std.specs.Prelude.{◌≡◌, ◌⊎◌, ℕ, Bool, if◌then◌else◌, Option, Some, None, codes}
use Rattle.std.specs.Int.NonZero.{non_zero_u64_get}
use Rattle.std.specs.declared.num.NonZeroU64.{NonZeroU64}
use Rattle.gpu_values.specs.declared.error.AllocationError.{AllocationError}
use Rattle.gpu_values.specs.declared.error.AllocationError.TheVariants as errors
use Rattle.gpu_values.specs.Refusal.{Refusal, internal, host_out_of_memory}
use Rattle.gpu_block_pieces.specs.FreeList.{FreeList, SomeExtent, has_gap_chunk_id}
use Rattle.gpu_block_pieces.specs.Request.{Request}
use Rattle.gpu_block_pieces.specs.Place.{HasNoPlace}

-- why a take is refused: the request has no place, or it has one and the host's memory was refused
abbrev pub IsAllocateRefusal : FreeList → Request → AllocationError → Type 0
IsAllocateRefusal b r errors.OutOfMemory = HasNoPlace b r
IsAllocateRefusal b r errors.HostOutOfMemory = HasNoPlace b r → ⊥
IsAllocateRefusal b r (errors.FailedToMap _) = ⊥
IsAllocateRefusal b r errors.NoCompatibleMemoryTypeFound = ⊥
IsAllocateRefusal b r errors.InvalidAllocationCreateDesc = ⊥
IsAllocateRefusal b r (errors.InvalidAllocatorCreateDesc _) = ⊥
IsAllocateRefusal b r (errors.Internal _) = ⊥
IsAllocateRefusal b r errors.BarrierLayoutNeedsDevice10 = ⊥
IsAllocateRefusal b r errors.CastableFormatsRequiresEnhancedBarriers = ⊥
IsAllocateRefusal b r errors.CastableFormatsRequiresAtLeastDevice12 = ⊥
IsAllocateRefusal b r errors.BudgetExceeded = ⊥

-- why a release is refused: the number is missing, or it is no live piece's
abbrev pub release_refusal : Option NonZeroU64 → Refusal
release_refusal None = internal (codes "Chunk ID must be a valid value.") None
release_refusal (Some _) = internal (codes "Attempting to free chunk that is not in chunk list.") None

-- why a number that no piece has gets no other name or word: a gap has it, or nothing has it
abbrev pub no_piece_fault : (is_gap : Bool) → Refusal
no_piece_fault is_gap = internal (if is_gap then codes "Attempting to rename a freed allocation." else codes "Attempting to rename chunk that is not in chunk list.") None

-- the same in a block
abbrev pub rename_fault : FreeList → ℕ → Refusal
rename_fault b n = no_piece_fault (has_gap_chunk_id b n)

-- why a new name or word is refused: the number is missing, or it is no live piece's, or it is one's and the host's memory was refused, which a word never needs
abbrev pub IsRenameRefusal : FreeList → Option NonZeroU64 → Refusal → Type 0
IsRenameRefusal b None refusal = refusal ≡ internal (codes "Chunk ID must be a valid value.") None
IsRenameRefusal b (Some n) refusal =
    ((SomeExtent b (λ x. x.chunk_id ≡ non_zero_u64_get n) → ⊥) × (refusal ≡ rename_fault b (non_zero_u64_get n)))
    ⊎ (SomeExtent b (λ x. x.chunk_id ≡ non_zero_u64_get n) × (refusal ≡ host_out_of_memory))
