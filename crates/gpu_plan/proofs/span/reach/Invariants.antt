use Rattle.std.proofs.Common.{◌-◌, length}
use Rattle.gpu_plan.proofs.Spanning.{Reaching}
use Rattle.gpu_plan.proofs.span.reach.Given as goal

abbrev pub invariant-loop-next : goal.invariant-loop-next
invariant-loop-next l = Reaching l.page l.r l.o l.spans l.next l.offset

abbrev pub decreases-loop-next : goal.decreases-loop-next
decreases-loop-next l = length l.spans - l.next
