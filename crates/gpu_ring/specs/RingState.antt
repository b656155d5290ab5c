-- What callers see of a ring, and what always holds of it.
use Rattle.std.specs.Prelude.{◌≡◌, ℕ, ◌+◌, ◌^◌, ◌<◌, ◌≤◌, List, length, sum_by}
use Rattle.gpu_ring.specs.declared.ring.FrameStatistics.{FrameStatistics}

-- the bytes of all these frames
abbrev pub bytes_of : List FrameStatistics → ℕ
bytes_of frames = sum_by (λ f. f.bytes) frames

-- its size; the place of the line where its taken bytes begin, and how many there are; the number of the oldest frame in flight; what each frame in
-- flight holds, the oldest first, and the open one; and for how many frames in flight there is room
pub record RingState : Type 0 where
  pub size : ℕ
  pub tail : ℕ
  pub taken : ℕ
  pub first : ℕ
  pub frames : List FrameStatistics
  pub current : FrameStatistics
  pub room : ℕ

-- the taken bytes are those of the frames, begin in the ring and aren't more than it has; where none is taken, they begin at its start; each piece of
-- the open frame has a byte
pub record IsRing (size tail taken first : ℕ) (frames : List FrameStatistics) (current : FrameStatistics) (room : ℕ) : Type 0 where
  pub bounded : size < 2 ^ 63
  pub rolled : tail < size
  pub within : taken ≤ size
  pub whole : bytes_of frames + current.bytes ≡ taken
  pub counted : current.pieces ≤ current.bytes
  pub numbered : first + length frames < 2 ^ 64
  pub fits : length frames ≤ room
  pub emptied : taken ≡ 0 → tail ≡ 0
