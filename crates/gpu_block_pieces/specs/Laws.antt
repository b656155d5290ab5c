-- Laws of a block: where its extents lie, and which pages they touch.
use Rattle.std.specs.Prelude.{◌≡◌, ◌≢◌, ℕ, ◌+◌, ◌-◌, ◌^◌, ◌<◌, ◌≤◌, ◌⊎◌, max, length, All, Contains}
use Rattle.std.specs.List.{AllPairs}
use Rattle.gpu_values.specs.declared.error.AllocationError.{AllocationError}
use Rattle.gpu_values.specs.declared.error.AllocationError.TheVariants as errors
use Rattle.gpu_block_pieces.specs.FreeList.{Extent, FreeList, SomeExtent, IsGap}
use Rattle.gpu_block_pieces.specs.Request.{Request}
use Rattle.gpu_block_pieces.specs.Place.{page}

-- each extent lies in the block and has its offset in it; two of them share no byte and no number; a gap has one number
pub record IsSound (b : FreeList) : Type 0 where
  pub within : All (λ x. (x.start ≤ x.offset) × (x.offset < x.end) × (x.end ≤ b.size)) b.extents
  pub apart : (x y : Extent) → Contains b.extents x → Contains b.extents y → (x ≡ y) ⊎ ((x.end ≤ y.start) ⊎ (y.end ≤ x.start))
  pub one_number : (x y : Extent) → Contains b.extents x → Contains b.extents y → x.chunk_id ≡ y.chunk_id → x ≡ y
  pub one_gap : (s k k' : ℕ) → Contains b.gap_chunk_ids (s, k) → Contains b.gap_chunk_ids (s, k') → k ≡ k'

-- the lists stand in order of start: an extent ends before the next one begins, and the numbered gaps are all gaps and no more; there is at most one more of them than there are live pieces
pub record ListOrder (b : FreeList) : Type 0 where
  pub extents : AllPairs (λ x y. x.end ≤ y.start) b.extents
  pub gaps : AllPairs (λ g h. g.0 < h.0) b.gap_chunk_ids
  pub each_gap : (s e : ℕ) → IsGap b s e → (k : ℕ) × Contains b.gap_chunk_ids (s, k)
  pub only_gaps : (s k : ℕ) → Contains b.gap_chunk_ids (s, k) → (e : ℕ) × IsGap b s e
  pub count : length b.gap_chunk_ids ≤ length b.extents + 1

unfoldable pub IsInOrder : FreeList → Type 0
IsInOrder b = ListOrder b

-- of two extents of different kinds, the earlier one ends on a page before that of the later one's offset
abbrev pub IsPageSeparated : FreeList → Type 0
IsPageSeparated b =
    (x y : Extent) → Contains b.extents x → Contains b.extents y → x.kind ≢ y.kind → x.end ≤ y.start → page b.granularity (x.end - 1) < page b.granularity y.offset

-- the gap is long enough for the request, whatever its neighbours are
abbrev pub IsLongEnough : FreeList → Request → ℕ → ℕ → Type 0
IsLongEnough b r start end = r.size + max r.alignment b.granularity + b.granularity ≤ (end - start) + 2

-- a refusal where a gap is long enough: the numbers are used up, or the host's memory is
abbrev pub IsForChunkIds : FreeList → AllocationError → Type 0
IsForChunkIds b errors.OutOfMemory = b.counter ≡ 2 ^ 64 - 1
IsForChunkIds b errors.HostOutOfMemory = Unit {0}
IsForChunkIds b (errors.FailedToMap _) = ⊥
IsForChunkIds b errors.NoCompatibleMemoryTypeFound = ⊥
IsForChunkIds b errors.InvalidAllocationCreateDesc = ⊥
IsForChunkIds b (errors.InvalidAllocatorCreateDesc _) = ⊥
IsForChunkIds b (errors.Internal _) = ⊥
IsForChunkIds b errors.BarrierLayoutNeedsDevice10 = ⊥
IsForChunkIds b errors.CastableFormatsRequiresEnhancedBarriers = ⊥
IsForChunkIds b errors.CastableFormatsRequiresAtLeastDevice12 = ⊥
IsForChunkIds b errors.BudgetExceeded = ⊥

-- extents and gaps cover the block: each place lies in one, no two of them share a place, and no two gaps touch
pub record IsCovered (b : FreeList) : Type 0 where
  pub all : (p : ℕ) → p < b.size → SomeExtent b (λ x. (x.start ≤ p) × (p < x.end)) ⊎ ((s : ℕ) × (e : ℕ) × IsGap b s e × (s ≤ p) × (p < e))
  pub extents : (x y : Extent) → Contains b.extents x → Contains b.extents y → (x ≡ y) ⊎ ((x.end ≤ y.start) ⊎ (y.end ≤ x.start))
  pub beside : (x : Extent) (s e : ℕ) → Contains b.extents x → IsGap b s e → (x.end ≤ s) ⊎ (e ≤ x.start)
  pub gaps : (s e t u : ℕ) → IsGap b s e → IsGap b t u → ((s ≡ t) × (e ≡ u)) ⊎ ((e < t) ⊎ (u < s))
