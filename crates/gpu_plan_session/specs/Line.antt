-- What a line of a plan trace says, whatever came before it.
use Rattle.std.specs.Prelude.{ℕ, List}
use Rattle.std.specs.Str.{IsAscii}
use Rattle.gpu_block_session.specs.Words.{words_of}
use Rattle.gpu_block_session.specs.Line.{IsBlank}
use Rattle.gpu_plan_session.specs.declared.command.Command.{Command}
use Rattle.gpu_plan_session.specs.declared.line.Line.{Line}
use Rattle.gpu_plan_session.specs.declared.line.Line.TheVariants as lines
use Rattle.gpu_plan_session.specs.PlanWords.{Spells}

-- an ASCII line whose words are the command's
pub record SaysCommand (line : List ℕ) (c : Command) : Type 0 where
  pub ascii : IsAscii line
  pub spells : Spells (words_of line) c

-- a line that is not blank and says no command
pub record SaysNothing (line : List ℕ) : Type 0 where
  pub gives : IsBlank line → ⊥
  pub says : (c : Command) → SaysCommand line c → ⊥

-- what a line says
abbrev pub Means : List ℕ → Line → Type 0
Means line lines.Blank = IsBlank line
Means line (lines.Says c) = SaysCommand line c
Means line lines.Bad = SaysNothing line

-- what words say
abbrev pub Reads : List (List ℕ) → Line → Type 0
Reads words lines.Blank = ⊥
Reads words (lines.Says c) = Spells words c
Reads words lines.Bad = (c : Command) → Spells words c → ⊥
