-- What a line of a block trace or a device trace says, whatever came before it.
use Rattle.std.specs.Prelude.{ℕ, List}
use Rattle.gpu_run.specs.VulkanServed.{Command}
use Rattle.gpu_block_session.specs.declared.block.command.Command as blocks
use Rattle.gpu_block_session.specs.BlockWords as block
use Rattle.gpu_trace_text.specs.Ask as ask
use Rattle.gpu_trace_text.specs.Command.{words, CommandFits}
use Rattle.gpu_trace_text.specs.Dialect as dialect
use Rattle.gpu_trace_text.specs.Setting as setting
use Rattle.gpu_trace_text.specs.Spelled.{Spells}
use Rattle.gpu_trace_text.specs.declared.device.setting.Setting.{Setting}
use Rattle.gpu_trace_text.specs.declared.dialect.Line as lines

-- a setting or a command of a device trace, or a command of a block trace
abbrev pub Line : Type 0
Line = lines.Line Setting Command blocks.Command

-- what words say
abbrev pub Reads : List (List ℕ) → Line → Type 0
Reads = dialect.Reads (Spells setting.words setting.SettingFits) (Spells (words ask.request_words ask.words) (CommandFits ask.FitsRequest ask.OtherFits)) (Spells block.words block.CommandFits)

-- what a line says
abbrev pub Means : List ℕ → Line → Type 0
Means = dialect.Means (Spells setting.words setting.SettingFits) (Spells (words ask.request_words ask.words) (CommandFits ask.FitsRequest ask.OtherFits)) (Spells block.words block.CommandFits)
