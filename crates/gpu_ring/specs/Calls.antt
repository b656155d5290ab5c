-- What a ring's calls return and leave.
use Rattle.std.specs.Prelude.{◌≡◌, ◌⊎◌, ℕ, ◌+◌, ◌-◌, ◌%◌, ◌==◌, ◌^◌, ◌<◌, ◌≤◌, if◌then◌else◌, [], ◌∷◌, ◌++◌, length, take, drop, Bool, true, false, Option, Some, None}
use Rattle.gpu_ring.specs.Line.{IsRingServed, IsFull}
use Rattle.gpu_ring.specs.RingState.{RingState, bytes_of}
use Rattle.gpu_ring.specs.declared.ring.Frame.{Frame}
use Rattle.gpu_ring.specs.declared.ring.FrameStatistics.{FrameStatistics}

-- a frame without pieces
abbrev pub no_pieces : FrameStatistics
no_pieces = record { pieces = 0; bytes = 0 }

-- a ring in which nothing is taken and no frame is in flight
abbrev pub empty_ring : (size room : ℕ) → RingState
empty_ring size room = record { size = size; tail = 0; taken = 0; first = 0; frames = []; current = no_pieces; room = room }

-- ---- allocate

-- a frame with a piece more, that takes so many bytes
abbrev pub with_piece : FrameStatistics → (bytes : ℕ) → FrameStatistics
with_piece frame bytes = record { pieces = frame.pieces + 1; bytes = frame.bytes + bytes }

-- the piece begins at the first place that serves, and the open frame takes the bytes up to its end
pub record Places (old : RingState) (size alignment offset : ℕ) (new : RingState) : Type 0 where
  pub place : ℕ
  pub served : IsRingServed old.size old.tail old.taken alignment size place
  pub offset_is : offset ≡ place % old.size
  pub state : new ≡ record old { taken = place + size - old.tail; current = with_piece old.current (place + size - (old.tail + old.taken)) }

-- refused exactly where the ring is full for it, and then nothing changes
abbrev pub RingAllocates : RingState → (size alignment : ℕ) → Option ℕ → RingState → Type 0
RingAllocates old size alignment None new = IsFull old.size old.tail old.taken alignment size × (new ≡ old)
RingAllocates old size alignment (Some offset) new = Places old size alignment offset new

-- ---- end_frame

-- there is no room for a frame more in flight, or no number
abbrev pub HasNoFrame : RingState → Type 0
HasNoFrame r = (r.room ≤ length r.frames) ⊎ (2 ^ 64 ≤ r.first + length r.frames + 1)

-- the open frame is in flight, under the next number; refused exactly where there is none for it, and then nothing changes
abbrev pub EndsFrame : RingState → Option Frame → RingState → Type 0
EndsFrame old None new = HasNoFrame old × (new ≡ old)
EndsFrame old (Some frame) new = (HasNoFrame old → ⊥) × (frame.number ≡ old.first + length old.frames) × (new ≡ record old { frames = old.frames ++ (old.current ∷ []); current = no_pieces })

-- ---- retire

-- the frame is in flight
abbrev pub IsInFlight : RingState → Frame → Type 0
IsInFlight r frame = (r.first ≤ frame.number) × (frame.number < r.first + length r.frames)

-- how many frames there are up to that one
abbrev pub frames_up_to : RingState → Frame → ℕ
frames_up_to r frame = frame.number + 1 - r.first

-- their bytes
abbrev pub bytes_up_to : RingState → Frame → ℕ
bytes_up_to r frame = bytes_of (take (frames_up_to r frame) r.frames)

-- where the taken bytes begin once so many of them are freed
abbrev pub tail_after : RingState → (freed : ℕ) → ℕ
tail_after r freed = if r.taken - freed == 0 then 0 else (r.tail + freed) % r.size

-- the frames up to that one are gone, and their bytes
abbrev pub without_frames : RingState → Frame → RingState
without_frames r frame = record r {
  tail = tail_after r (bytes_up_to r frame);
  taken = r.taken - bytes_up_to r frame;
  first = frame.number + 1;
  frames = drop (frames_up_to r frame) r.frames;
}

-- a frame in flight goes with each older one; of any other nothing changes
abbrev pub Retires : RingState → Frame → Bool → RingState → Type 0
Retires old frame true new = IsInFlight old frame × (new ≡ without_frames old frame)
Retires old frame false new = (IsInFlight old frame → ⊥) × (new ≡ old)
