-- What a memory type's budget leaves of a capture.
use Rattle.std.specs.Prelude.{◌≡◌, ℕ, Option, slice_get, slice_set, Some}
use Rattle.gpu_capture.specs.CaptureState.{CaptureState}
use Rattle.gpu_capture.specs.Keeps.{Keeps, with_call}
use Rattle.gpu_capture.specs.Line.{line_of}
use Rattle.gpu_capture.specs.Words.{budget_words}

-- with the line of a budget
abbrev pub with_budget : CaptureState → (memory_type : ℕ) → Option ℕ → CaptureState
with_budget s memory_type budget = record (with_call s (line_of (budget_words memory_type budget))) { budgets = slice_set s.budgets memory_type budget }

-- a budget that the lines have has no line more
pub record Bounds (old : CaptureState) (memory_type : ℕ) (budget : Option ℕ) (new : CaptureState) : Type 0 where
  pub same : slice_get old.budgets memory_type ≡ Some budget → new ≡ old
  pub other : (slice_get old.budgets memory_type ≡ Some budget → ⊥) → Keeps old (with_budget old memory_type budget) new
