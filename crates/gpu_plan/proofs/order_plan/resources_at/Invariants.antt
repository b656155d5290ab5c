use Rattle.std.proofs.Common.{◌≡◌, take}
use Rattle.std.specs.Prelude.{map}
use Rattle.gpu_plan.specs.Plan.{resource_at}
use Rattle.gpu_plan.proofs.order_plan.resources_at.Given as goal

abbrev pub invariant-loop-index : goal.invariant-loop-index
invariant-loop-index l = l.found.items ≡ map (resource_at l.resources) (take l.index-index l.indices)
