-- A ring is a line rolled up: the byte at a place of the line is the ring's byte at the place's remainder by the ring's size.
use Rattle.std.specs.Prelude.{◌≡◌, ℕ, ◌+◌, ◌%◌, ◌<◌, ◌≤◌, ◌⊎◌}

-- a piece of so many bytes may begin at a place of the line: not before the head, aligned in the ring, and not across the ring's end
pub record MayBegin (ring alignment head size place : ℕ) : Type 0 where
  pub after : head ≤ place
  pub aligned : place % ring % alignment ≡ 0
  pub whole : place % ring + size ≤ ring

-- the first such place
pub record IsNext (ring alignment head size place : ℕ) : Type 0 where
  pub begins : MayBegin ring alignment head size place
  pub least : (p : ℕ) → MayBegin ring alignment head size p → place ≤ p

-- the request is served at a place: the first one, and its end doesn't pass the tail, a whole ring on
pub record IsRingServed (ring tail taken alignment size place : ℕ) : Type 0 where
  pub next : IsNext ring alignment (tail + taken) size place
  pub room : place + size ≤ tail + ring

-- wherever it might begin, its end would pass the tail
abbrev pub IsFull : ℕ → ℕ → ℕ → ℕ → ℕ → Type 0
IsFull ring tail taken alignment size = (p : ℕ) → MayBegin ring alignment (tail + taken) size p → tail + ring < p + size

-- bytes [first, first + m) and [second, second + n) are apart
abbrev pub Apart : ℕ → ℕ → ℕ → ℕ → Type 0
Apart first m second n = (first + m ≤ second) ⊎ (second + n ≤ first)

-- a piece of m bytes at a place of the line lies in the taken bytes, and in one part of the ring
pub record IsTaken (ring tail taken place m : ℕ) : Type 0 where
  pub behind : tail ≤ place
  pub before : place + m ≤ tail + taken
  pub whole : place % ring + m ≤ ring

-- a piece of m bytes at an offset lies in the taken bytes
pub record IsTakenAt (ring tail taken offset m : ℕ) : Type 0 where
  pub place : ℕ
  pub at : place % ring ≡ offset
  pub there : IsTaken ring tail taken place m

-- a request costs its size and what its alignment may skip; of what was asked for from a place of the line on, the bytes from there to the
-- head take at most the cost, and less than one request's cost more where they go over the ring's end
pub record IsFed (ring most start rest cost : ℕ) : Type 0 where
  pub over : rest + 1 ≤ cost + most
  pub before : start + rest ≤ ring → rest ≤ cost
  pub after : ring ≤ start → rest ≤ cost
