-- Best fit: a request is placed at the least place in the shortest gap that fits, and at no place that the page rule forbids.
use Rattle.std.specs.Prelude.{◌≡◌, ◌≢◌, ℕ, ◌+◌, ◌-◌, ◌/◌, ◌%◌, ◌^◌, ◌<◌, ◌≤◌, ◌⊎◌}
use Rattle.gpu_values.specs.declared.allocation_type.AllocationType.{AllocationType}
use Rattle.gpu_block_pieces.specs.FreeList.{FreeList, SomeExtent, IsGap}
use Rattle.gpu_block_pieces.specs.Request.{Request}

-- the page rule, and the page that a place lies on: Vulkan's bufferImageGranularity keeps linear and other pieces on pages of their own
abbrev pub page : ℕ → ℕ → ℕ
page granularity place = place / granularity

-- where a piece may begin from `start` on; `Other` says that an extent of the other kind ends at `start`
pub record MayBegin (granularity alignment : ℕ) (Other : Type 0) (start offset : ℕ) : Type 0 where
  pub after : start ≤ offset
  pub aligned : offset % alignment ≡ 0
  pub apart : Other → page granularity offset ≢ page granularity (start - 1)

-- the least place at which a piece may begin
pub record IsOffsetIn (granularity alignment : ℕ) (Other : Type 0) (start offset : ℕ) : Type 0 where
  pub begins : MayBegin granularity alignment Other start offset
  pub least : (o : ℕ) → MayBegin granularity alignment Other start o → offset ≤ o

-- a piece of the other kind ends at a place
abbrev pub OtherEnds : FreeList → AllocationType → ℕ → Type 0
OtherEnds b kind place = SomeExtent b (λ x. (x.kind ≢ kind) × (x.end ≡ place))

-- a piece of the other kind starts at a place
abbrev pub OtherStarts : FreeList → AllocationType → ℕ → Type 0
OtherStarts b kind place = SomeExtent b (λ x. (x.kind ≢ kind) × (x.start ≡ place))

-- `size` bytes fit at `offset` between `start` and `end`, beside extents of the other kind where `Left` and `Right` hold
pub record FitsBetween (granularity alignment size : ℕ) (Left Right : Type 0) (start end offset : ℕ) : Type 0 where
  pub begins : IsOffsetIn granularity alignment Left start offset
  pub inside : offset + size ≤ end
  pub apart : Right → page granularity (offset + size - 1) ≢ page granularity end

-- the request fits in the gap [start, end), at `offset`
pub record RequestFits (b : FreeList) (r : Request) (start end offset : ℕ) : Type 0 where
  pub gap : IsGap b start end
  pub between : FitsBetween b.granularity r.alignment r.size (OtherEnds b r.kind start) (OtherStarts b r.kind end) start end offset

-- the best fit: the shortest gap in which the request fits, and of equal ones the lowest
pub record IsBestFit (b : FreeList) (r : Request) (start end offset : ℕ) : Type 0 where
  pub fits : RequestFits b r start end offset
  pub best : (s e o : ℕ) → RequestFits b r s e o → (end - start < e - s) ⊎ ((end - start ≡ e - s) × (start ≤ s))

-- no gap fits, or the best one would keep a rest, and the last number is given out
abbrev pub HasNoPlace : FreeList → Request → Type 0
HasNoPlace b r =
    ((s e o : ℕ) → RequestFits b r s e o → ⊥) ⊎ ((s : ℕ) × (e : ℕ) × (o : ℕ) × IsBestFit b r s e o × (o + r.size < e) × (b.counter ≡ 2 ^ 64 - 1))
