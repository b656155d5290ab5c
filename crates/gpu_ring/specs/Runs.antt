-- Lists of calls whose requests keep to bounds: which ring serves all of them.
use Rattle.std.specs.Prelude.{ℕ, ◌+◌, ◌-◌, ◌<◌, ◌≤◌, List, [], ◌∷◌, ◌++◌, length, drop, Bool, true, false, Option, Some, None, IsSome}
use Rattle.gpu_ring.specs.Calls.{RingAllocates, EndsFrame, Retires, frames_up_to}
use Rattle.gpu_ring.specs.RingState.{RingState}
use Rattle.gpu_ring.specs.declared.ring.Frame.{Frame}

-- a call of a ring
pub data Call : Type 0 where
  Request : (size alignment : ℕ) → Call
  End : Call
  Retire : (frame : Frame) → Call

-- a request counts its size, and what its alignment may skip
abbrev pub cost : (size alignment : ℕ) → ℕ
cost size alignment = size + alignment - 1

-- a ring, and what the requests of each frame in flight count, the oldest first, and those of the open frame
pub record Asked : Type 0 where
  pub ring : RingState
  pub frames : List ℕ
  pub current : ℕ

-- once a piece was asked for
abbrev pub after_request : Asked → (size alignment : ℕ) → RingState → Asked
after_request s size alignment new = record { ring = new; frames = s.frames; current = s.current + cost size alignment }

-- once the open frame was to end
abbrev pub after_end : Asked → Option Frame → RingState → Asked
after_end s None new = record { ring = new; frames = s.frames; current = s.current }
after_end s (Some frame) new = record { ring = new; frames = s.frames ++ (s.current ∷ []); current = 0 }

-- once a frame was to be retired
abbrev pub after_retire : Asked → Frame → Bool → RingState → Asked
after_retire s frame false new = record { ring = new; frames = s.frames; current = s.current }
after_retire s frame true new = record { ring = new; frames = drop (frames_up_to s.ring frame) s.frames; current = s.current }

-- each request of the list is served, where no request counts more than `most`, those of a frame no more than `most_a_frame`, and a frame
-- ends only where fewer than `most_frames` are in flight
module _ (most most_a_frame most_frames : ℕ) where
  abbrev pub ServesAll : List Call → Asked → Type 0
  ServesAll [] s = Unit {0}
  ServesAll (Request size alignment ∷ calls) s =
      0 < size → 0 < alignment → cost size alignment ≤ most → s.current + cost size alignment ≤ most_a_frame
      → (answer : Option ℕ) (new : RingState) → RingAllocates s.ring size alignment answer new → IsSome answer × ServesAll calls (after_request s size alignment new)
  ServesAll (End ∷ calls) s =
      length s.frames < most_frames → (answer : Option Frame) (new : RingState) → EndsFrame s.ring answer new → ServesAll calls (after_end s answer new)
  ServesAll (Retire frame ∷ calls) s = (answer : Bool) (new : RingState) → Retires s.ring frame answer new → ServesAll calls (after_retire s frame answer new)
