use Rattle.gpu_plan.specs.Reuse.{Reuses}
use Rattle.gpu_plan.proofs.Listing.{Lists}
use Rattle.gpu_plan.proofs.reuse.reused_by.Given as goal

abbrev pub invariant-loop-i : goal.invariant-loop-i
invariant-loop-i l = Lists (Reuses l.resources l.offsets l.index) l.i l.found.items
