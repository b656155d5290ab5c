-- The sorts of lines of a plan trace, as far as their order goes.
use Rattle.gpu_plan_session.specs.declared.command.Command.{Command}
use Rattle.gpu_plan_session.specs.declared.command.Command.TheVariants.{Plan, Add, Solve}

-- `plan`, or a line behind it
pub data PlanSort : Type 0 where
  opens_plan : PlanSort
  -- a resource, or `solve`
  uses_plan : PlanSort

-- the sort of a command
abbrev pub sort_of_command : Command → PlanSort
sort_of_command (Plan page) = opens_plan
sort_of_command (Add key resource name) = uses_plan
sort_of_command Solve = uses_plan
