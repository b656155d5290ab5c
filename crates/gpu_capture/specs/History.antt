-- The calls that a capture has lines of, one after another.
use Rattle.std.specs.Prelude.{◌≡◌, ℕ, ◌+◌, List, [], ◌∷◌, Option, length, codes}
use Rattle.gpu_capture.specs.declared.answer.Answer.{Answer}
use Rattle.gpu_capture.specs.declared.answer.Answer.TheVariants.{Granted, Refused}
use Rattle.gpu_capture.specs.declared.request.D3D12Request.{D3D12Request}
use Rattle.gpu_capture.specs.declared.request.Request.{Request}
use Rattle.gpu_device.specs.declared.refusal.Refusal.{Refusal}
use Rattle.gpu_capture.specs.Answers.{answer_lines}
use Rattle.gpu_capture.specs.Budgets.{with_budget}
use Rattle.gpu_capture.specs.CaptureState.{CaptureState}
use Rattle.gpu_capture.specs.D3D12.{release_words}
use Rattle.gpu_capture.specs.Keeps.{Keeps, with_lines}
use Rattle.gpu_capture.specs.Line.{line_of, name_word}
use Rattle.gpu_capture.specs.Requests.{alloc_line, move_line, committed_line}
use Rattle.gpu_capture.specs.Words.{budget_words, free_words, rename_words}

-- an allocation, a second place of one, a committed resource, a free, a release, another name, another budget, a committed residency set
pub data Call : Type 0 where
  Allocated : (number : ℕ) → Request → List Answer → Call
  Moved : (from to : ℕ) → Request → Call
  Committed : (number : ℕ) → D3D12Request → List Answer → Call
  Freed : (number : ℕ) → Call
  Released : (number : ℕ) → Call
  Renamed : (number : ℕ) → (name : List ℕ) → Call
  Bounded : (memory_type : ℕ) → Option ℕ → Call
  SetCommitted : Call

-- a call's line
abbrev pub call_line : Call → List ℕ
call_line (Allocated number r answers) = alloc_line number r
call_line (Moved from to r) = move_line from to r
call_line (Committed number r answers) = committed_line number r
call_line (Freed number) = line_of (free_words number)
call_line (Released number) = line_of (release_words number)
call_line (Renamed number name) = line_of (rename_words number (name_word name))
call_line (Bounded memory_type budget) = line_of (budget_words memory_type budget)
call_line SetCommitted = line_of (codes "commit" ∷ [])

-- what the driver answered to its questions
abbrev pub answers_of : Call → List Answer
answers_of (Allocated number r answers) = answers
answers_of (Committed number r answers) = answers
answers_of c = []

-- a capture with the lines of a call: those of what was refused to it, and its own
abbrev pub with_kept : CaptureState → Call → CaptureState
with_kept s (Bounded memory_type budget) = with_budget s memory_type budget
with_kept s c = with_lines s (answer_lines s.questions (answers_of c)) (call_line c) (length (answers_of c))

-- these calls were kept, or those before the capture ended; a budget that the lines have is none of them
abbrev pub Kept : List Call → (old new : CaptureState) → Type 0
Kept [] old new = new ≡ old
Kept (c ∷ cs) old new = (next : CaptureState) × Keeps old (with_kept old c) next × Kept cs next new

-- a question's number, and how it was refused
pub record RefusedQuestion : Type 0 where
  pub question : ℕ
  pub refusal : Refusal

-- of the questions behind so many others those that were refused
abbrev pub refused_in : (before : ℕ) → List Answer → List RefusedQuestion
refused_in before [] = []
refused_in before (Granted ∷ rest) = refused_in (before + 1) rest
refused_in before (Refused refusal ∷ rest) = record { question = before + 1; refusal = refusal } ∷ refused_in (before + 1) rest
