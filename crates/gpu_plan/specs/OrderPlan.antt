-- The plan of an order.
use Rattle.std.specs.Prelude.{◌≡◌, ℕ, ◌+◌, ◌<◌, ◌≤◌, ◌⊎◌, List, length, map, slice_index, Option, Some, None}
use Rattle.gpu_plan.specs.declared.order_plan.OrderPlan.{OrderPlan}
use Rattle.gpu_plan.specs.declared.resource.Resource.{Resource}
use Rattle.gpu_plan.specs.declared.resource.Placed.{Placed}
use Rattle.gpu_plan.specs.declared.order.Order.{Order}
use Rattle.gpu_plan.specs.Plan.{resource_at, IsPlan}
use Rattle.gpu_plan.specs.Order.{IsOrder}

-- the resource at an index, at its offset
abbrev pub placed_at : List Resource → List ℕ → (index : ℕ) → Placed
placed_at resources offsets index = record { resource = resource_at resources index; offset = slice_index offsets index }

-- each resource has an offset: in this order, the least one after those before it
pub record IsPlanBy (page : ℕ) (order : Order) (resources : List Resource) (offsets : List ℕ) : Type 0 where
  pub each : length offsets ≡ length resources
  pub indices : List ℕ
  pub ordered : IsOrder order resources indices
  pub planned : IsPlan page (map (resource_at resources) indices) (map (placed_at resources offsets) indices)

-- the byte behind the resource at an index
abbrev pub end_at : List Resource → List ℕ → (index : ℕ) → ℕ
end_at resources offsets index = slice_index offsets index + (resource_at resources index).size

-- the heap ends where the last resource does; without resources it is empty
pub record IsHeap (resources : List Resource) (offsets : List ℕ) (heap : ℕ) : Type 0 where
  pub within : (i : ℕ) → i < length resources → end_at resources offsets i ≤ heap
  pub reached : (heap ≡ 0) ⊎ ((i : ℕ) × (i < length resources) × (end_at resources offsets i ≡ heap))

-- the plan with the smaller heap of two, of equal ones the first; where there is one alone, it
abbrev pub IsBetter : (first second better : Option OrderPlan) → Type 0
IsBetter None second better = better ≡ second
IsBetter (Some p) None better = better ≡ Some p
IsBetter (Some p) (Some q) better = ((better ≡ Some p) × (p.heap ≤ q.heap)) ⊎ ((better ≡ Some q) × (q.heap < p.heap))
