use Rattle.gpu_plan.proofs.Offsets.{Written}
use Rattle.gpu_plan.proofs.order_plan.offsets_of.Given as goal

abbrev pub invariant-loop-k : goal.invariant-loop-k
invariant-loop-k l = Written l.offsets.items l.indices l.placed l.k
