use Rattle.std.proofs.Common.{◌≡◌, ℕ, ◌<◌, ◌≤◌, ◌⊎◌}
use Rattle.gpu_plan.specs.Plan.{resource_at}
use Rattle.gpu_plan.proofs.memory.greatest_alignment.Given as goal

abbrev pub invariant-loop-r : goal.invariant-loop-r
invariant-loop-r l =
    (l.least ≤ l.greatest)
    × ((k : ℕ) → k < l.r-index → (resource_at l.resources k).alignment ≤ l.greatest)
    × ((l.greatest ≡ l.least) ⊎ ((i : ℕ) × (i < l.r-index) × ((resource_at l.resources i).alignment ≡ l.greatest)))
