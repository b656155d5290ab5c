use Rattle.gpu_plan.proofs.Alive.{IsBestStart}
use Rattle.gpu_plan.proofs.passes.busiest.Given as goal

abbrev pub invariant-loop-start : goal.invariant-loop-start
invariant-loop-start l = IsBestStart l.starts l.first l.last l.start-index l.best
