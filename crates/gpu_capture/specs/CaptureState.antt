-- What a capture has, and the trace that it is.
use Rattle.std.specs.Prelude.{◌≡◌, ℕ, ◌+◌, ◌≤◌, ◌<◌, ◌^◌, List, [], ◌∷◌, ◌++◌, length, Bool, true, false, Option, codes}
use Rattle.gpu_capture.specs.declared.capture.CaptureEnd.{CaptureEnd}
use Rattle.gpu_capture.specs.declared.capture.CaptureEnd.TheVariants.{Whole, TooLong, HostOutOfMemory}
use Rattle.gpu_capture.specs.Line.{line_of}

pub record CaptureState : Type 0 where
  -- the device's lines
  pub device : List ℕ
  -- the lines of calls
  pub calls : List ℕ
  -- how far they go
  pub end : CaptureEnd
  -- how many questions these calls asked
  pub questions : ℕ
  -- the memory types' budgets by these lines
  pub budgets : List (Option ℕ)

-- the most bytes that a trace has
abbrev pub longest_trace : ℕ
longest_trace = 1048576

-- room for `new` and for what ends a trace
abbrev pub end_room : ℕ
end_room = 160

-- a trace has room for the lines, and 64 bits count the questions
pub record HasRoom (s : CaptureState) : Type 0 where
  pub bytes : length s.device + length s.calls + end_room ≤ longest_trace
  pub count : s.questions < 2 ^ 64

-- what always holds of a capture
pub record IsCapture (s : CaptureState) : Type 0 where
  pub room : HasRoom s
  pub types : length s.budgets ≡ 32

-- behind the device's lines; a trace without a device has none
abbrev pub new_line : List ℕ → List ℕ
new_line [] = []
new_line (b ∷ bs) = line_of (codes "new" ∷ [])

-- what ends a trace: `destroy` where the allocator is gone, or why it ends early
abbrev pub last_line : CaptureEnd → (is_destroyed : Bool) → List ℕ
last_line Whole false = []
last_line Whole true = line_of (codes "destroy" ∷ [])
last_line TooLong is_destroyed = codes "# the capture ends here: the next call would make the trace too long\n"
last_line HostOutOfMemory is_destroyed = codes "# the capture ends here: no host memory for the next call\n"

-- the trace
abbrev pub text : CaptureState → (is_destroyed : Bool) → List ℕ
text s is_destroyed = s.device ++ (new_line s.device ++ (s.calls ++ last_line s.end is_destroyed))
