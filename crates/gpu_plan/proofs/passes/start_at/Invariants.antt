use Rattle.std.proofs.Common.{◌≡◌, ℕ, ◌<◌, get_or}
use Rattle.gpu_plan.specs.declared.passes.Start.{Start}
use Rattle.gpu_plan.proofs.passes.start_at.Given as goal

abbrev pub invariant-loop-start : goal.invariant-loop-start
invariant-loop-start l = (k : ℕ) (d : Start) → k < l.start-index → (get_or l.starts k d).pass ≡ l.pass → ⊥
