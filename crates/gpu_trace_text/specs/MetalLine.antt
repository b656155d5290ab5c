-- What a line of a Metal trace says, whatever came before it.
use Rattle.std.specs.Prelude.{ℕ, List, [], ◌∷◌, codes}
use Rattle.gpu_run.specs.MetalCommand.{Command}
use Rattle.gpu_trace_text.specs.Dialect as dialect
use Rattle.gpu_trace_text.specs.MetalCommand as command
use Rattle.gpu_trace_text.specs.Command.{words, CommandFits}
use Rattle.gpu_trace_text.specs.MetalSetting as setting
use Rattle.gpu_trace_text.specs.Spelled.{Spells}
use Rattle.gpu_trace_text.specs.declared.dialect.Line as lines
use Rattle.gpu_trace_text.specs.declared.metal.line.Look.{Look}
use Rattle.gpu_trace_text.specs.declared.metal.line.Look.TheVariants.{Members, Committed, Asked}
use Rattle.gpu_trace_text.specs.declared.metal.setting.Setting.{Setting}

-- a setting, a command, or what is looked up
abbrev pub Line : Type 0
Line = lines.Line Setting Command Look

-- the one word of a look
abbrev pub look_words : Look → List (List ℕ)
look_words Members = codes "members" ∷ []
look_words Committed = codes "committed" ∷ []
look_words Asked = codes "asked" ∷ []

-- any may be
abbrev pub LookFits : Look → Type 0
LookFits l = Unit {0}

-- what a line says
abbrev pub Means : List ℕ → Line → Type 0
Means = dialect.Means (Spells setting.words setting.SettingFits) (Spells (words command.request_words command.words) (CommandFits command.FitsRequest command.OtherFits)) (Spells look_words LookFits)
