use Rattle.std.proofs.Common.{ℕ, ◌<◌, get_or}
use Rattle.gpu_plan.specs.declared.resource.Resource.{Resource}
use Rattle.gpu_plan.specs.Passes.{AreTrue, HasStart}
use Rattle.gpu_plan.proofs.passes.starts.Given as goal

abbrev pub invariant-loop-r : goal.invariant-loop-r
invariant-loop-r l = record {
  told : AreTrue l.resources l.starts.items;
  each : (k : ℕ) (d : Resource) → k < l.r-index → HasStart l.starts.items (get_or l.resources k d).first;
}
