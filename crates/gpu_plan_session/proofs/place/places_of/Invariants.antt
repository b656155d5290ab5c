use Rattle.std.proofs.Common.{◌≡◌, length, take}
use Rattle.gpu_plan_session.specs.PlanSession.{offsets_of, ArePlaces}
use Rattle.gpu_plan_session.proofs.place.places_of.Given as goal

abbrev pub invariant-loop-index : goal.invariant-loop-index
invariant-loop-index l = record {
  count : length l.places.items ≡ l.index;
  offsets : offsets_of l.places.items ≡ take l.index l.plan.offsets.items;
  places : ArePlaces l.listed l.plan.offsets.items l.places.items;
}
