use Rattle.std.proofs.Common.{◌≡◌, take}
use Rattle.gpu_plan_session.specs.PlanSession.{resources_of}
use Rattle.gpu_plan_session.proofs.place.resources_of.Given as goal

abbrev pub invariant-loop-one : goal.invariant-loop-one
invariant-loop-one l = l.found.items ≡ resources_of (take l.one-index l.listed)
