use Rattle.std.proofs.Common.{◌≡◌, take}
use Rattle.std.specs.Prelude.{map}
use Rattle.gpu_c.specs.Plan.{resource_told}
use Rattle.gpu_c.proofs.plan.resources_of.Given as goal

abbrev pub invariant-loop-r : goal.invariant-loop-r
invariant-loop-r l = l.resources.items ≡ map resource_told (take l.r-index l.told)
