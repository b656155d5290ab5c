use Rattle.std.proofs.Common.{◌≡◌, ℕ, ◌<◌, ◌≤◌, ◌⊎◌, get_or}
use Rattle.gpu_plan.specs.declared.passes.Start.{Start}
use Rattle.gpu_plan.proofs.passes.peak.Given as goal

abbrev pub invariant-loop-start : goal.invariant-loop-start
invariant-loop-start l = record {
  below : (k : ℕ) (d : Start) → k < l.start-index → (get_or l.starts k d).bytes ≤ l.most;
  met : (l.most ≡ 0) ⊎ ((k : ℕ) × (k < l.start-index) × ((d : Start) → (get_or l.starts k d).bytes ≡ l.most));
}
