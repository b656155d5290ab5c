use Rattle.std.proofs.Common.{◌≡◌, take}
use Rattle.std.specs.Prelude.{map}
use Rattle.gpu_c.specs.PlanMemory.{needs_told}
use Rattle.gpu_c.proofs.plan_memory.all_needs.Given as goal

abbrev pub invariant-loop-one : goal.invariant-loop-one
invariant-loop-one l = l.needs.items ≡ map needs_told (take l.one-index l.told)
