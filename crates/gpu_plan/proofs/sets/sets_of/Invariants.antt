use Rattle.std.proofs.Common.{◌≡◌, [], ◌++◌, drop, length}
use Rattle.gpu_plan.specs.Sets.{sets_of}
use Rattle.gpu_plan.proofs.sets.sets_of.Given as goal

abbrev pub invariant-loop-r : goal.invariant-loop-r
invariant-loop-r l = (length l.found.items ≡ l.r-index) × (l.found.items ++ sets_of l.sets.items (drop l.r-index l.resources) ≡ sets_of [] l.resources)
