-- A mark of each slot of a memory type, as its code keeps them.
use Rattle.std.specs.Prelude.{ℕ, ◌+◌, ◌*◌, ◌<◌, ◌≤◌, List, length, slice_index}

-- what a contract sees: the marks, and for how many slots there is host memory
pub record Marks : Type 0 where
  pub marks : List ℕ
  pub room : ℕ

-- each run of sixteen has a number, which none of its marks is above
pub record BoundRuns (marks runs : List ℕ) : Type 0 where
  pub enough : length marks ≤ 16 * length runs
  pub no_more : 16 * length runs < length marks + 16
  pub each : (run i : ℕ) → 16 * run ≤ i → i < 16 * run + 16 → i < length marks → slice_index marks i ≤ slice_index runs run

-- so has each run of marks, each span of runs and each stretch of spans
pub record AreWithin (marks runs spans stretches : List ℕ) : Type 0 where
  pub of_marks : BoundRuns marks runs
  pub of_runs : BoundRuns runs spans
  pub of_spans : BoundRuns spans stretches
