-- A plan trace from its first command on: which command may come, its reply, and the stage that it leaves.
use Rattle.std.specs.Prelude.{◌≡◌}
use Rattle.gpu_plan_session.specs.declared.command.Command.{Command}
use Rattle.gpu_plan_session.specs.declared.command.Command.TheVariants.{Plan, Add, Solve}
use Rattle.gpu_plan_session.specs.declared.reply.Reply.{Reply}
use Rattle.gpu_plan_session.specs.declared.reply.Reply.TheVariants.{Done}
use Rattle.gpu_plan_session.specs.declared.plan_stage.PlanStage.{PlanStage}
use Rattle.gpu_plan_session.specs.declared.plan_stage.PlanStage.TheVariants.{Before, Open}
use Rattle.gpu_plan_session.specs.PlanSort.{PlanSort, opens_plan, uses_plan}
use Rattle.gpu_plan_session.specs.PlanSession.{no_resources, Adding, Solving}

-- `plan` comes first and once
abbrev pub Admits : PlanStage → PlanSort → Type 0
Admits Before opens_plan = Unit {0}
Admits (Open s) uses_plan = Unit {0}
Admits _ _ = ⊥

-- a command that may come, its reply, and the stage that it leaves
abbrev pub Step : PlanStage → Command → Reply → PlanStage → Type 0
Step Before (Plan page) r new = (r ≡ Done) × (new ≡ Open (no_resources page))
Step (Open s) (Add key resource name) r (Open t) = Adding s (record { key = key; name = name; resource = resource }) r t
Step (Open s) Solve r (Open t) = Solving s r × (t ≡ s)
Step old c r new = ⊥
