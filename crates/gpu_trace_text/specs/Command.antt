-- What a command says in a trace, whatever the API. Each has one spelling: its words, with decimal numbers and no leading zeros.
use Rattle.std.specs.Prelude.{ℕ, ◌<◌, ◌^◌, List, [], ◌∷◌, Option, Some, None, codes}
use Rattle.gpu_capture.specs.Words.{alloc_words, budget_words, free_words, move_words}
use Rattle.gpu_run.specs.declared.command.Command.{Command}
use Rattle.gpu_run.specs.declared.command.Command.TheVariants.{Alloc, Move, Free, Report, Capacity, SetBudget, Other}

-- by the words of a request, behind the numbers that it is asked under, and those of what one API alone asks for
abbrev pub words : {R O : Type 0} → (R → List (List ℕ)) → (O → List (List ℕ)) → Command R O → List (List ℕ)
words request other (Alloc key r) = alloc_words key (request r)
words request other (Move key to r) = move_words key to (request r)
words request other (Free key) = free_words key
words request other Report = codes "report" ∷ []
words request other Capacity = codes "capacity" ∷ []
words request other (SetBudget t budget) = budget_words t budget
words request other (Other o) = other o

abbrev pub FitsBudget : Option ℕ → Type 0
FitsBudget None = Unit {0}
FitsBudget (Some bytes) = bytes < 2 ^ 64

-- what a command's numbers and names may be
abbrev pub CommandFits : {R O : Type 0} → (R → Type 0) → (O → Type 0) → Command R O → Type 0
CommandFits Fits FitsOther (Alloc key r) = (key < 2 ^ 64) × Fits r
CommandFits Fits FitsOther (Move key to r) = (key < 2 ^ 64) × (to < 2 ^ 64) × Fits r
CommandFits Fits FitsOther (Free key) = key < 2 ^ 64
CommandFits Fits FitsOther Report = Unit {0}
CommandFits Fits FitsOther Capacity = Unit {0}
CommandFits Fits FitsOther (SetBudget t budget) = (t < 2 ^ 64) × FitsBudget budget
CommandFits Fits FitsOther (Other o) = FitsOther o

-- the same of a command of any API alone
abbrev pub Shared : {R O : Type 0} → (R → Type 0) → Command R O → Type 0
Shared Fits c = CommandFits Fits (λ o. ⊥) c
