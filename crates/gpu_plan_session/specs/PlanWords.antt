-- What a line of a plan trace says. Each command has one spelling: its words, with decimal numbers and no leading zeros.
use Rattle.std.specs.Prelude.{◌≡◌, ℕ, ◌<◌, ◌^◌, List, [], ◌∷◌, Option, Some, None, codes, string_bytes}
use Rattle.std.specs.Fmt.{decimal}
use Rattle.gpu_block_session.specs.Words.{IsName}
use Rattle.gpu_block_session.specs.BlockWords.{IsPowerOfTwo}
use Rattle.gpu_plan.specs.declared.resource.Kind.{Kind}
use Rattle.gpu_plan.specs.declared.resource.Kind.TheVariants.{Linear, Optimal}
use Rattle.gpu_plan.specs.declared.resource.Resource.{Resource}
use Rattle.gpu_plan_session.specs.declared.command.Command.{Command}
use Rattle.gpu_plan_session.specs.declared.command.Command.TheVariants.{Plan, Add, Solve}

-- the word of a kind
abbrev pub kind_word : Kind → List ℕ
kind_word Linear = codes "linear"
kind_word Optimal = codes "nonlinear"

-- the words of a command
abbrev pub words : Command → List (List ℕ)
words (Plan page) = codes "plan" ∷ decimal page ∷ []
words (Add key r name) = codes "resource" ∷ decimal key ∷ decimal r.size ∷ decimal r.alignment ∷ kind_word r.kind ∷ decimal r.first ∷ decimal r.last ∷ string_bytes name ∷ []
words Solve = codes "solve" ∷ []

-- what a resource's numbers may be
abbrev pub FitsResource : Resource → Type 0
FitsResource r = (r.size < 2 ^ 64) × (r.alignment < 2 ^ 64) × (r.first < 2 ^ 64) × (r.last < 2 ^ 64)

-- what a command's numbers and names may be
abbrev pub CommandFits : Command → Type 0
CommandFits (Plan page) = (page < 2 ^ 64) × IsPowerOfTwo page
CommandFits (Add key r name) = (key < 2 ^ 64) × FitsResource r × IsName (string_bytes name)
CommandFits Solve = Unit {0}

-- these words are the resource's
pub record AreWordsOf (r : Resource) (size alignment kind first last : List ℕ) : Type 0 where
  pub size_is : size ≡ decimal r.size
  pub alignment_is : alignment ≡ decimal r.alignment
  pub kind_is : kind ≡ kind_word r.kind
  pub first_is : first ≡ decimal r.first
  pub last_is : last ≡ decimal r.last

-- these words are the command's
pub record Spells (line : List (List ℕ)) (c : Command) : Type 0 where
  pub is : line ≡ words c
  pub fits : CommandFits c

-- the words are this command's, or no command's
abbrev pub Says : List (List ℕ) → Option Command → Type 0
Says line (Some c) = Spells line c
Says line None = (c : Command) → Spells line c → ⊥
