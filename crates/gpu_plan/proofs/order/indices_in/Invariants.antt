use Rattle.std.proofs.Common.{◌≡◌, take}
use Rattle.std.specs.Prelude.{map}
use Rattle.gpu_plan.proofs.order.indices_in.Given as goal

abbrev pub invariant-loop-rank : goal.invariant-loop-rank
invariant-loop-rank l = l.indices.items ≡ map (λ x. x.index) (take l.rank-index l.rank-items)
