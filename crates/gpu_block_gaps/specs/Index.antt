-- The ordered index: the gaps of a block in the order of length and start.
use Rattle.std.specs.Prelude.{◌≡◌, ℕ, ◌-◌, ◌<◌, ◌≤◌, ◌⊎◌, nat_lt, if◌then◌else◌, List, length, slice_index_or}
use Rattle.std.specs.List.{insert, remove}
use Rattle.gpu_block_gaps.specs.declared.index.Gap.{Gap}

-- the gap is before that length and start
abbrev pub IsBefore : Gap → ℕ → ℕ → Type 0
IsBefore a length start = (a.length < length) ⊎ ((a.length ≡ length) × (a.start < start))

abbrev pub Before : Gap → Gap → Type 0
Before a b = IsBefore a b.length b.start

-- the gaps of an index, for how many it has room, and up to which length it tells them by class
pub record Index : Type 0 where
  pub gaps : List Gap
  pub room : ℕ
  pub longest : ℕ

abbrev pub HasKey : Gap → ℕ → ℕ → Type 0
HasKey a length start = (a.length ≡ length) × (a.start ≡ start)

abbrev pub HasNoKey : List Gap → ℕ → ℕ → Type 0
HasNoKey gs size start = (k : ℕ) (d : Gap) → k < length gs → HasKey (slice_index_or gs k d) size start → ⊥

-- some gap has that length and start
pub record HasKeyAt (gs : List Gap) (size start : ℕ) : Type 0 where
  pub at : ℕ
  pub at_within : at < length gs
  pub at_key : (d : Gap) → HasKey (slice_index_or gs at d) size start

-- some gap has that length
pub record HasLength (gs : List Gap) (size : ℕ) : Type 0 where
  pub at : ℕ
  pub within : at < length gs
  pub is : (d : Gap) → (slice_index_or gs at d).length ≡ size

-- the gaps before that place are before the key, and no other is
pub record IsPlaceOf (gs : List Gap) (size start place : ℕ) : Type 0 where
  pub within : place ≤ length gs
  pub below : (k : ℕ) (d : Gap) → k < place → IsBefore (slice_index_or gs k d) size start
  pub from : (k : ℕ) (d : Gap) → place ≤ k → k < length gs → IsBefore (slice_index_or gs k d) size start → ⊥

-- the gap stands somewhere between the others
pub record IsInserted (old : List Gap) (gap : Gap) (new : List Gap) : Type 0 where
  pub place : ℕ
  pub within : place ≤ length old
  pub is : new ≡ insert old place gap

-- the gap of that length and start is gone
pub record IsRemoved (old : List Gap) (size start : ℕ) (new : List Gap) : Type 0 where
  pub place : ℕ
  pub within : place < length old
  pub key : (d : Gap) → HasKey (slice_index_or old place d) size start
  pub is : new ≡ remove old place

-- the gap of that length and start made way for another one
pub record IsReplaced (old : List Gap) (size start : ℕ) (gap : Gap) (new : List Gap) : Type 0 where
  pub rest : List Gap
  pub gone : IsRemoved old size start rest
  pub put : IsInserted rest gap new

-- where the place `to` is once the entry at `from` is gone
abbrev pub place_without : ℕ → ℕ → ℕ
place_without from to = if nat_lt from to then to - 1 else to
