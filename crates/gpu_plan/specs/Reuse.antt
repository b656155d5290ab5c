-- Which resources lie where others lay.
use Rattle.std.specs.Prelude.{ℕ, ◌<◌, List, length, slice_index, Contains, ◌↔◌}
use Rattle.std.specs.List.Sorted.{IsStrictlyIncreasing}
use Rattle.gpu_plan.specs.declared.resource.Resource.{Resource}
use Rattle.gpu_plan.specs.Plan.{resource_at, ShareByte}

-- the later resource begins after the earlier one's life, and has some of its bytes
pub record Reuses (resources : List Resource) (offsets : List ℕ) (later earlier : ℕ) : Type 0 where
  pub over : (resource_at resources earlier).last < (resource_at resources later).first
  pub bytes : ShareByte (slice_index offsets earlier) (resource_at resources earlier).size (slice_index offsets later) (resource_at resources later).size

-- exactly the indices of those whose bytes the later one reuses, ascending
pub record AreReused (resources : List Resource) (offsets : List ℕ) (later : ℕ) (found : List ℕ) : Type 0 where
  pub ascending : IsStrictlyIncreasing found
  pub exact : (i : ℕ) → Contains found i ↔ ((i < length resources) × Reuses resources offsets later i)
