-- A block of memory that is cut into pieces: its extents and its gaps.
use Rattle.std.specs.Prelude.{Option, Some, None, ◌+◌, ◌≡◌, ℕ, ◌<◌, ◌≤◌, ◌⊎◌, ◌-◌, ◌==◌, Bool, List, [], ◌∷◌, All, Contains}
use Rattle.std.specs.List.{sum_by, list_any}
use Rattle.gpu_values.specs.declared.allocation_type.AllocationType.{AllocationType}
use Rattle.gpu_cost.specs.Cost.{Counts}

-- [start, end) belongs to one live piece, which begins at `offset`; what lies before that is padding; its caller named it, and keeps a word with it
pub record Extent : Type 0 where
  pub start : ℕ
  pub offset : ℕ
  pub end : ℕ
  pub kind : AllocationType
  pub chunk_id : ℕ
  pub name : List ℕ
  pub word : ℕ

-- the extents stand in the order of their starts; `gap_numbers` has each gap's start and its number, in the same order
pub record FreeList : Type 0 where
  pub size : ℕ
  pub granularity : ℕ
  pub counter : ℕ
  pub extents : List Extent
  pub gap_chunk_ids : List (ℕ × ℕ)

-- a block, and what its searches cost so far
pub record Counted : Type 0 where
  pub block : FreeList
  pub cost : Counts

-- a block without pieces is one gap, with number 1
abbrev pub fresh_free_list : ℕ → ℕ → ℕ → FreeList
fresh_free_list size granularity counter =
    record { size = size; granularity = granularity; counter = counter; extents = []; gap_chunk_ids = (0, 1) ∷ [] }

abbrev pub SomeExtent : FreeList → (Extent → Type 0) → Type 0
SomeExtent b P = (x : Extent) × Contains b.extents x × P x

-- [start, end) is a gap: it is not empty, meets no extent, and can't be made wider on either side
pub record IsGap (b : FreeList) (start end : ℕ) : Type 0 where
  pub nonempty : start < end
  pub inside : end ≤ b.size
  pub meets_none : All (λ x. (x.end ≤ start) ⊎ (end ≤ x.start)) b.extents
  pub starts : (start ≡ 0) ⊎ SomeExtent b (λ x. x.end ≡ start)
  pub ends : (end ≡ b.size) ⊎ SomeExtent b (λ x. x.start ≡ end)

-- no gap is longer, and where it isn't 0 one is that long
pub record IsLongestGap (b : FreeList) (size : ℕ) : Type 0 where
  pub bound : (start end : ℕ) → IsGap b start end → end - start ≤ size
  pub reached : 0 < size → (start : ℕ) × (end : ℕ) × IsGap b start end × (end - start ≡ size)

-- the bytes of the extents, padding included
abbrev pub extent_bytes : List Extent → ℕ
extent_bytes xs = sum_by (λ x. x.end - x.start) xs

-- a gap has the number
abbrev pub has_gap_chunk_id : FreeList → ℕ → Bool
has_gap_chunk_id b n = list_any (λ g. g.1 == n) b.gap_chunk_ids

-- the offset and the size of the piece of that number among the extents, if there is one
abbrev pub FindsPlace : List Extent → ℕ → Option (ℕ × ℕ) → Type 0
FindsPlace xs chunk_id None = (x : Extent) → Contains xs x → x.chunk_id ≡ chunk_id → ⊥
FindsPlace xs chunk_id (Some p) = (x : Extent) × Contains xs x × (x.chunk_id ≡ chunk_id) × (x.offset ≡ p.0) × (x.end ≡ p.0 + p.1)
