use Rattle.std.proofs.Common.{◌≡◌, take}
use Rattle.std.specs.Prelude.{map}
use Rattle.gpu_plan_session.specs.PlanSession.{key_at}
use Rattle.gpu_plan_session.proofs.place.keys_at.Given as goal

abbrev pub invariant-loop-index : goal.invariant-loop-index
invariant-loop-index l = l.keys.items ≡ map (key_at l.listed) (take l.index-index l.indices)
