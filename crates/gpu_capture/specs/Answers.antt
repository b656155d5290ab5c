-- The lines of the questions that a driver refused.
use Rattle.std.specs.Prelude.{ℕ, ◌+◌, List, [], ◌∷◌, ◌++◌}
use Rattle.gpu_capture.specs.declared.answer.Answer.{Answer}
use Rattle.gpu_capture.specs.declared.answer.Answer.TheVariants.{Granted, Refused}
use Rattle.gpu_capture.specs.Line.{line_of}
use Rattle.gpu_capture.specs.Words.{refuse_words}

-- a question that was granted has none
abbrev pub answer_line : (question : ℕ) → Answer → List ℕ
answer_line question Granted = []
answer_line question (Refused refusal) = line_of (refuse_words question refusal)

-- behind so many questions
abbrev pub answer_lines : (before : ℕ) → List Answer → List ℕ
answer_lines before [] = []
answer_lines before (a ∷ rest) = answer_line (before + 1) a ++ answer_lines (before + 1) rest
