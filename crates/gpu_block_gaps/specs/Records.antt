-- How a thread lies in its slots.
use Rattle.std.specs.Prelude.{◌≡◌, ◌≢◌, ℕ, zero, suc, ◌+◌, ◌-◌, ◌^◌, ◌<◌, ◌≤◌, ◌==◌, if◌then◌else◌, List, [], ◌∷◌, length, slice_index, slice_index_or, All}
use Rattle.std.specs.List.{AllPairs}
use Rattle.gpu_block_gaps.specs.Order.{IsIn}
use Rattle.gpu_block_gaps.specs.declared.index.Gap.{Gap}
use Rattle.gpu_block_gaps.specs.declared.thread.Record.{Record}
use Rattle.gpu_block_gaps.specs.Thread.{blank}

-- a slot that never had a gap
abbrev pub blank_record : Record
blank_record = record { gap = blank; prev = 0; next = 0 }

-- a record's gap
abbrev pub gap_of : Record → Gap
gap_of r = r.gap

-- the last of a list, 0 where it is empty
abbrev pub last_of : List ℕ → ℕ
last_of slots = slice_index slots (length slots - 1)

-- the slot behind one, by its record
abbrev pub next_in : List Record → ℕ → ℕ
next_in rs slot = (slice_index_or rs slot blank_record).next

-- the slot before one, by its record
abbrev pub prev_in : List Record → ℕ → ℕ
prev_in rs slot = (slice_index_or rs slot blank_record).prev

-- the slots that are met from one on up to slot 0
abbrev pub follow : ℕ → (ℕ → ℕ) → ℕ → List ℕ
follow zero next at = []
follow (suc most) next at = if at == 0 then [] else at ∷ follow most next (next at)

-- the slots from the first on, along the links
abbrev pub order_of : List Record → List ℕ
order_of rs = follow (length rs) (next_in rs) (next_in rs 0)

-- each slot of the ring is linked to the next one, and that to it; slot 0 stands before the first and behind the last
abbrev pub AreLinked : (ℕ → ℕ) → (ℕ → ℕ) → List ℕ → Type 0
AreLinked next prev order = (k : ℕ) → k ≤ length order → (next (slice_index (0 ∷ order) k) ≡ slice_index order k) × (prev (slice_index order k) ≡ slice_index (0 ∷ order) k)

-- a slot leads to another one, and each other slot where it led
abbrev pub LeadsTo : (ℕ → ℕ) → (ℕ → ℕ) → ℕ → ℕ → Type 0
LeadsTo old new from to = (new from ≡ to) × ((k : ℕ) → k ≢ from → new k ≡ old k)

-- a slot leads to a new one, that to another, and each other slot where it led
abbrev pub LeadsThrough : (ℕ → ℕ) → (ℕ → ℕ) → (from slot to : ℕ) → Type 0
LeadsThrough old new from slot to = (new from ≡ slot) × (new slot ≡ to) × ((k : ℕ) → k ≢ from → k ≢ slot → new k ≡ old k)

-- the slot is of no gap
abbrev pub IsSpare : (ℕ → Type 0) → ℕ → ℕ → Type 0
IsSpare taken count slot = (0 < slot) × (slot < count) × (taken slot → ⊥)

-- the records are linked in that order, and each slot but 0 has a gap or is spare
pub record AreThreaded (rs : List Record) (spare : List ℕ) (room : ℕ) (order : List ℕ) : Type 0 where
  pub linked : AreLinked (next_in rs) (prev_in rs) order
  pub distinct : AllPairs (λ a b. a ≢ b) (0 ∷ order)
  pub inside : (slot : ℕ) → IsIn slot order → slot < length rs
  pub free : All (IsSpare (λ slot. IsIn slot order) (length rs)) spare
  pub apart : AllPairs (λ a b. a ≢ b) spare
  pub counted : length order + length spare ≡ length rs - 1
  pub fits : length rs ≤ room
  pub few : length rs < 2 ^ 30

-- the records are linked in the order that their links tell
abbrev pub IsThread : List Record → List ℕ → ℕ → Type 0
IsThread rs spare room = AreThreaded rs spare room (order_of rs)
