use Rattle.std.proofs.Common.{◌-◌, ◌^◌}
use Rattle.gpu_plan.proofs.Spanning.{Between}
use Rattle.gpu_plan.proofs.span.least_beside.Given as goal

abbrev pub invariant-loop-o : goal.invariant-loop-o
invariant-loop-o l = Between l.page l.same l.other l.r l.o l.same_next l.other_next

abbrev pub decreases-loop-o : goal.decreases-loop-o
decreases-loop-o l = 2 ^ 64 - l.o
