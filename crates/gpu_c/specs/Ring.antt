-- What the calls do to a ring.
use Rattle.std.specs.Prelude.{◌≡◌, ℕ, ◌+◌, ◌-◌, ◌%◌, ◌^◌, ◌<◌, map, length, slice_get, Some}
use Rattle.gpu_ring.specs.Line.{IsFull, IsTaken, Apart}
use Rattle.gpu_ring.specs.RingState.{RingState}
use Rattle.gpu_ring.specs.Calls.{RingAllocates, IsInFlight}
use Rattle.gpu_ring.specs.declared.ring.Frame.{Frame}
use Rattle.gpu_ring.specs.Stretch.{stretch_of}
use Rattle.gpu_ring.specs.declared.ring.FrameStatistics.{FrameStatistics}
use Rattle.gpu_ring.specs.declared.ring.Stretch.{Stretch}
use Rattle.gpu_c.specs.declared.ring_values.FrameCounts.{FrameCounts}
use Rattle.gpu_c.specs.declared.ring_values.RingCounts.{RingCounts}
use Rattle.gpu_c.specs.declared.ring_values.RingStretch.{RingStretch}

-- a ring may have so many bytes
abbrev pub IsRingSize : ℕ → Type 0
IsRingSize size = (0 < size) × (size < 2 ^ 63)

-- a piece may be of that size and alignment
abbrev pub IsPiece : (size alignment : ℕ) → Type 0
IsPiece size alignment = (0 < size) × (0 < alignment)

-- the piece was allocated, and shares no byte with any that lies in the taken ones
pub record GainsPiece (old : RingState) (size alignment offset : ℕ) (new : RingState) : Type 0 where
  pub piece : IsPiece size alignment
  pub allocates : RingAllocates old size alignment (Some offset) new
  pub apart : (q m : ℕ) → 0 < m → IsTaken old.size old.tail old.taken q m → Apart (q % old.size) m offset size

-- a piece of that size and alignment has no place
abbrev pub HasNoPlace : RingState → (size alignment : ℕ) → Type 0
HasNoPlace r size alignment = IsPiece size alignment × IsFull r.size r.tail r.taken alignment size

-- the frame of that number
abbrev pub numbered : ℕ → Frame
numbered number = record { number = number }

-- what is counted of a frame
abbrev pub counts_of_frame : FrameStatistics → FrameCounts
counts_of_frame f = record { pieces = f.pieces; bytes = f.bytes }

-- the frame of that number is in flight, and this is counted of it
abbrev pub CountsFrame : RingState → ℕ → FrameCounts → Type 0
CountsFrame r number counts = IsInFlight r (numbered number) × (slice_get (map counts_of_frame r.frames) (number - r.first) ≡ Some counts)

-- a stretch as callers get it
abbrev pub told_stretch : Stretch → RingStretch
told_stretch s = record { offset = s.offset; size = s.size; rest = s.rest }

-- where the bytes of the open frame lie
abbrev pub current_stretch : RingState → RingStretch
current_stretch r = told_stretch (stretch_of r.size (r.tail + r.taken - r.current.bytes) r.current.bytes)

-- what is counted of a ring
abbrev pub counts_of_ring : RingState → RingCounts
counts_of_ring r = record {
  size = r.size;
  taken = r.taken;
  frames = length r.frames;
  oldest = r.first;
  current = counts_of_frame r.current;
}
