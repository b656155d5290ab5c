-- What a line of a block trace does.
use Rattle.std.specs.Prelude.{◌≡◌, ℕ, List, [], ◌∷◌, ◌++◌}
use Rattle.gpu_block_session.specs.declared.block.command.Command.{Command}
use Rattle.gpu_block_session.specs.declared.block.reply.Reply.{Reply}
use Rattle.gpu_block_session.specs.Line.{IsBlank, SaysCommand}
use Rattle.gpu_block_session.specs.BlockReply.{reply_text}
use Rattle.gpu_block_session.specs.BlockSort.{sort_of_command}
use Rattle.gpu_block_session.specs.BlockStage.{Admits, Step}
use Rattle.gpu_block_session.specs.declared.block_stage.BlockStage.{BlockStage}
use Rattle.gpu_block_session.specs.declared.outcome.Outcome.{Outcome}
use Rattle.gpu_block_session.specs.declared.outcome.Outcome.TheVariants.{Nothing, Replied, Bad}

-- a line that is not blank, and says no command that may come next
pub record IsBad (stage : BlockStage) (line : List ℕ) : Type 0 where
  pub gives : IsBlank line → ⊥
  pub says : (c : Command) → SaysCommand line c → Admits stage (sort_of_command c) → ⊥

-- what one line does
abbrev pub StageServes : BlockStage → List ℕ → Outcome Reply → BlockStage → Type 0
StageServes old line Nothing new = IsBlank line × (new ≡ old)
StageServes old line (Replied r) new = (c : Command) × SaysCommand line c × Step old c r new
StageServes old line Bad new = IsBad old line

-- the reply and the end of its line
abbrev pub reply_line : Reply → List ℕ
reply_line r = reply_text r ++ 10 ∷ []
