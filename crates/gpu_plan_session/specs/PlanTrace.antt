-- What a line of a plan trace does.
use Rattle.std.specs.Prelude.{◌≡◌, ℕ, List, [], ◌∷◌, ◌++◌}
use Rattle.gpu_block_session.specs.Line.{IsBlank}
use Rattle.gpu_block_session.specs.declared.outcome.Outcome.{Outcome}
use Rattle.gpu_block_session.specs.declared.outcome.Outcome.TheVariants.{Nothing, Replied, Bad}
use Rattle.gpu_plan_session.specs.declared.command.Command.{Command}
use Rattle.gpu_plan_session.specs.declared.reply.Reply.{Reply}
use Rattle.gpu_plan_session.specs.declared.plan_stage.PlanStage.{PlanStage}
use Rattle.gpu_plan_session.specs.Line.{SaysCommand}
use Rattle.gpu_plan_session.specs.PlanReply.{reply_text}
use Rattle.gpu_plan_session.specs.PlanSort.{sort_of_command}
use Rattle.gpu_plan_session.specs.PlanStage.{Admits, Step}

-- a line that is not blank, and says no command that may come next
pub record IsBad (stage : PlanStage) (line : List ℕ) : Type 0 where
  pub gives : IsBlank line → ⊥
  pub says : (c : Command) → SaysCommand line c → Admits stage (sort_of_command c) → ⊥

-- what one line does
abbrev pub StageServes : PlanStage → List ℕ → Outcome Reply → PlanStage → Type 0
StageServes old line Nothing new = IsBlank line × (new ≡ old)
StageServes old line (Replied r) new = (c : Command) × SaysCommand line c × Step old c r new
StageServes old line Bad new = IsBad old line

-- the reply and the end of its line
abbrev pub reply_line : Reply → List ℕ
reply_line r = reply_text r ++ 10 ∷ []
