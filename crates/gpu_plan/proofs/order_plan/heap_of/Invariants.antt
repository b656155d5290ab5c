use Rattle.std.proofs.Common.{◌≡◌, ℕ, ◌<◌, ◌≤◌, ◌⊎◌}
use Rattle.gpu_plan.specs.OrderPlan.{end_at}
use Rattle.gpu_plan.proofs.order_plan.heap_of.Given as goal

abbrev pub invariant-loop-i : goal.invariant-loop-i
invariant-loop-i l = record {
  within : (j : ℕ) → j < l.i → end_at l.resources l.offsets j ≤ l.heap;
  reached : (l.heap ≡ 0) ⊎ ((j : ℕ) × (j < l.i) × (end_at l.resources l.offsets j ≡ l.heap));
}
