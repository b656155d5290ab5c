-- The refusals that a simulated device is told to give, by the number of the question.
use Rattle.std.specs.Prelude.{ℕ, ◌==◌, if◌then◌else◌, List, [], ◌∷◌, Option, Some, None}
use Rattle.gpu_device.specs.Held.{raised}
use Rattle.gpu_device.specs.declared.refusal.Refusal.{Refusal}
use Rattle.gpu_sim_base.specs.declared.script.Script.{Script}

-- the refusal of a question: of two at one number the first counts
abbrev pub refusal_at : List (ℕ × Refusal) → ℕ → Option Refusal
refusal_at [] question = None
refusal_at (e ∷ entries) question = if e.0 == question then Some e.1 else refusal_at entries question

-- the refusal that the script has for the next question
abbrev pub next_refusal : Script → Option Refusal
next_refusal script = refusal_at script.entries.items (raised script.questions)

-- the script after a question
abbrev pub counted : Script → Script
counted script = record script { questions = raised script.questions }
