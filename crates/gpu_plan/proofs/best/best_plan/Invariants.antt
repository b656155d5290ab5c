use Rattle.gpu_plan.proofs.Choice.{BestSoFar}
use Rattle.gpu_plan.proofs.best.best_plan.Given as goal

abbrev pub invariant-loop-order : goal.invariant-loop-order
invariant-loop-order l = BestSoFar l.page l.resources l.order-index l.best
