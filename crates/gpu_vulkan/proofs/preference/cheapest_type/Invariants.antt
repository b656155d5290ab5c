use Rattle.std.proofs.Common.{◌≡◌}
use Rattle.gpu_vulkan.specs.Preference.{IsCheapestOf}
use Rattle.gpu_vulkan.proofs.Cheapest.{Costs}
use Rattle.gpu_vulkan.proofs.preference.cheapest_type.Given as goal

abbrev pub invariant-loop-info : goal.invariant-loop-info
invariant-loop-info l = record {
  at : l.index ≡ l.info-index;
  cheapest : IsCheapestOf l.info-index l.types l.bits l.preference l.cheapest;
  least : Costs l.info-index l.types l.preference l.cheapest l.least;
}
