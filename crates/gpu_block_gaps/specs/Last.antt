-- The gaps that are in classes, and the last one behind them, which is in none.
use Rattle.std.specs.Prelude.{◌≡◌, ℕ, ◌+◌, ◌<◌, ◌≤◌, nat_le, Bool, true, false, List, [], ◌∷◌, ◌++◌, length, slice_index, slice_index_or, Option, Some, None}
use Rattle.gpu_block_gaps.specs.declared.index.Gap.{Gap}
use Rattle.gpu_block_gaps.specs.declared.thread.Record.{Record}
use Rattle.gpu_block_gaps.specs.Index.{Before, HasKey}
use Rattle.gpu_block_gaps.specs.Thread.{Threaded, gap_in}

-- the gap of a record, if there is one
abbrev pub gap_if : Option Record → Option Gap
gap_if None = None
gap_if (Some r) = Some r.gap

-- the gaps, and the last one behind them, if there is one
abbrev pub with_last : List Gap → Option Gap → List Gap
with_last gs None = gs
with_last gs (Some g) = gs ++ g ∷ []

-- each of the gaps is before that one
abbrev pub AreBefore : List Gap → Gap → Type 0
AreBefore gs g = (k : ℕ) (d : Gap) → k < length gs → Before (slice_index_or gs k d) g

-- each of the gaps is before the last one, if there is one, and there is room for all
abbrev pub IsBehind : List Gap → ℕ → Option Gap → Type 0
IsBehind gs room None = length gs ≤ room
IsBehind gs room (Some g) = AreBefore gs g × (length gs < room)

-- there is a last gap, and it has that length and start
abbrev pub IsLast : Option Gap → ℕ → ℕ → Type 0
IsLast None length start = ⊥
IsLast (Some g) length start = HasKey g length start

-- there is a last gap, which hasn't that length and start, and the other gap is before it
abbrev pub StaysLast : Option Gap → ℕ → ℕ → Gap → Type 0
StaysLast None length start other = ⊥
StaysLast (Some g) length start other = (HasKey g length start → ⊥) × Before other g

-- how many last gaps there are: one or none
abbrev pub last_count : Option Gap → ℕ
last_count None = 0
last_count (Some g) = 1

-- whether there is a last gap of at least that length
abbrev pub is_last_long : Option Gap → ℕ → Bool
is_last_long None size = false
is_last_long (Some g) size = nat_le size g.length

-- how many last gaps a search has passed: none while that gap is to come
abbrev pub passed : Option Gap → Bool → ℕ
passed last true = 0
passed last false = last_count last

-- a search that has passed the last gap has passed all others
abbrev pub IsLeft : List Gap → ℕ → Option Gap → Bool → Type 0
IsLeft gs place None pending = Unit {0}
IsLeft gs place (Some g) true = Unit {0}
IsLeft gs place (Some g) false = length gs ≤ place

-- the record has the gap at that place of the thread, and leads to the slot behind it
pub record IsRecordAt (t : Threaded) (place : ℕ) (r : Record) : Type 0 where
  pub within : place < length t.order
  pub gap : r.gap ≡ gap_in t.gaps (slice_index t.order place)
  pub next : r.next ≡ slice_index t.order (place + 1)
