use Rattle.std.proofs.Common.{◌≡◌, ◌+◌, drop}
use Rattle.gpu_plan.specs.Sets.{set_for}
use Rattle.gpu_plan.proofs.sets.set_for.Given as goal

abbrev pub invariant-loop-index : goal.invariant-loop-index
invariant-loop-index l = set_for l.fn.r l.sets ≡ l.index + set_for l.fn.r (drop l.index l.sets)
