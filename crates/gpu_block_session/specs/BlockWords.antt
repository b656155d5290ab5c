-- What a line of a block trace says. Each command has one spelling: its words, with decimal numbers and no leading zeros.
use Rattle.std.specs.Prelude.{◌≡◌, ℕ, ◌<◌, ◌^◌, List, [], ◌∷◌, Option, Some, None, codes, string_bytes, IsTrue}
use Rattle.std.specs.Int.{is_power_of_two}
use Rattle.std.specs.Fmt.{decimal}
use Rattle.gpu_block_session.specs.declared.block.command.Side.{Side}
use Rattle.gpu_block_session.specs.declared.block.command.Side.TheVariants.{Device, Host}
use Rattle.gpu_block_session.specs.declared.block.command.Kind.{Kind}
use Rattle.gpu_block_session.specs.declared.block.command.Kind.TheVariants.{Linear, NonLinear}
use Rattle.gpu_block_session.specs.declared.block.command.Command.{Command}
use Rattle.gpu_block_session.specs.declared.block.command.Command.TheVariants.{Block, Allocate, Free, Report}
use Rattle.gpu_block_session.specs.Words.{IsName}

abbrev pub side_word : Side → List ℕ
side_word Device = codes "device"
side_word Host = codes "host"

abbrev pub kind_word : Kind → List ℕ
kind_word Linear = codes "linear"
kind_word NonLinear = codes "nonlinear"

abbrev pub words : Command → List (List ℕ)
words (Block side min max count granularity) = codes "block" ∷ side_word side ∷ decimal min ∷ decimal max ∷ decimal count ∷ decimal granularity ∷ []
words (Allocate key size alignment kind name) = codes "take" ∷ decimal key ∷ decimal size ∷ decimal alignment ∷ kind_word kind ∷ string_bytes name ∷ []
words (Free key) = codes "give" ∷ decimal key ∷ []
words Report = codes "report" ∷ []

pub record IsPowerOfTwo (n : ℕ) : Type 0 where
  pub one_bit : IsTrue (is_power_of_two n)

-- what a command's numbers and names may be
abbrev pub CommandFits : Command → Type 0
CommandFits (Block side min max count granularity) = (min < 2 ^ 64) × (max < 2 ^ 64) × (count < 2 ^ 64) × (granularity < 2 ^ 64) × IsPowerOfTwo granularity
CommandFits (Allocate key size alignment kind name) = (key < 2 ^ 64) × (size < 2 ^ 64) × (alignment < 2 ^ 64) × IsName (string_bytes name)
CommandFits (Free key) = key < 2 ^ 64
CommandFits Report = Unit {0}

-- these words are the command's
pub record Spells (line : List (List ℕ)) (c : Command) : Type 0 where
  pub is : line ≡ words c
  pub fits : CommandFits c

-- the words are this command's, or no command's
abbrev pub Says : List (List ℕ) → Option Command → Type 0
Says line (Some c) = Spells line c
Says line None = (c : Command) → Spells line c → ⊥
