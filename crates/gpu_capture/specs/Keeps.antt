-- What a call leaves of a capture: all of its lines, or none.
use Rattle.std.specs.Prelude.{◌≡◌, ℕ, ◌+◌, List, [], ◌++◌, None, replicate}
use Rattle.gpu_capture.specs.declared.capture.CaptureEnd.{CaptureEnd}
use Rattle.gpu_capture.specs.declared.capture.CaptureEnd.TheVariants.{Whole, TooLong, HostOutOfMemory}
use Rattle.gpu_capture.specs.CaptureState.{CaptureState, HasRoom}

-- with more lines of the device and of a call, which asked so many questions
abbrev pub with_lines : CaptureState → (device calls : List ℕ) → (questions : ℕ) → CaptureState
with_lines s device calls questions = record s { device = s.device ++ device; calls = s.calls ++ calls; questions = s.questions + questions }

-- with a line of a call that asked nothing
abbrev pub with_call : CaptureState → List ℕ → CaptureState
with_call s line = with_lines s [] line 0

-- it ends before this call
abbrev pub ended : CaptureState → CaptureEnd → CaptureState
ended s end = record s { end = end }

-- what was whole goes on as `next` where there is room for that, and else ends, as it does where the host refuses memory
abbrev pub GoesOn : (old next : CaptureState) → CaptureEnd → CaptureState → Type 0
GoesOn old next Whole new = HasRoom next × (new ≡ next)
GoesOn old next TooLong new = (HasRoom next → ⊥) × (new ≡ ended old TooLong)
GoesOn old next HostOutOfMemory new = new ≡ ended old HostOutOfMemory

-- what has ended stays as it is
abbrev pub KeepsFrom : CaptureEnd → (old next new : CaptureState) → Type 0
KeepsFrom Whole old next new = GoesOn old next new.end new
KeepsFrom TooLong old next new = new ≡ old
KeepsFrom HostOutOfMemory old next new = new ≡ old

abbrev pub Keeps : (old next new : CaptureState) → Type 0
Keeps old next new = KeepsFrom old.end old next new

-- what was whole ends before this call
abbrev pub StopsFrom : CaptureEnd → (old : CaptureState) → CaptureEnd → (new : CaptureState) → Type 0
StopsFrom Whole old end new = new ≡ ended old end
StopsFrom TooLong old end new = new ≡ old
StopsFrom HostOutOfMemory old end new = new ≡ old

abbrev pub Stops : (old : CaptureState) → CaptureEnd → (new : CaptureState) → Type 0
Stops old end new = StopsFrom old.end old end new

-- a capture that begins
abbrev pub blank : CaptureState
blank = record { device = []; calls = []; end = Whole; questions = 0; budgets = replicate 32 None }
