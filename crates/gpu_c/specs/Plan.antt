-- Plans of transient resources, as C tells and sees them.
use Rattle.std.specs.Prelude.{◌≡◌, ℕ, ◌<◌, ◌≤◌, ◌⊎◌, ◌==◌, if◌then◌else◌, List, All, IsTrue, length, map}
use Rattle.std.specs.Int.{is_power_of_two}
use Rattle.gpu_plan.specs.declared.resource.Resource.{Resource}
use Rattle.gpu_plan.specs.declared.resource.Kind.{Kind}
use Rattle.gpu_plan.specs.declared.resource.Kind.TheVariants as kinds
use Rattle.gpu_plan.specs.declared.order.Order.{Order}
use Rattle.gpu_plan.specs.declared.order.Order.TheVariants as orders
use Rattle.gpu_plan.specs.Passes.{IsPeak}
use Rattle.gpu_plan.specs.Best.{IsBestOf, NoneMeet, AreAligned, all_orders}
use Rattle.gpu_plan.specs.Reuse.{AreReused}
use Rattle.gpu_c.specs.Request.{linear, non_linear}
use Rattle.gpu_c.specs.Visit.{copied_into}
use Rattle.gpu_c.specs.declared.plan_values.PlanResource.{PlanResource}
use Rattle.gpu_c.specs.declared.plan_values.HeapPlanned.{HeapPlanned}

-- the number of an order
abbrev pub order_number : Order → ℕ
order_number orders.Size = 1
order_number orders.Area = 2
order_number orders.Alignment = 3
order_number orders.Magnitude = 4
order_number orders.Breadth = 5

-- the kind of that number
abbrev pub plan_kind : ℕ → Kind
plan_kind kind = if kind == linear then kinds.Linear else kinds.Optimal

-- a resource as plans know it
abbrev pub resource_told : PlanResource → Resource
resource_told r = record { size = r.size; alignment = r.alignment; kind = plan_kind r.kind; first = r.first_pass; last = r.last_pass }

-- a resource that can be planned
pub record IsPlannable (r : PlanResource) : Type 0 where
  pub sized : 0 < r.size
  pub aligned : IsTrue (is_power_of_two r.alignment)
  pub named : (r.kind ≡ linear) ⊎ (r.kind ≡ non_linear)
  pub lives : r.first_pass ≤ r.last_pass

-- pages, and resources that can be planned
pub record HasMemory (resources : List PlanResource) (page_size : ℕ) : Type 0 where
  pub paged : IsTrue (is_power_of_two page_size)
  pub each : All IsPlannable resources

-- what can be planned, and room for an offset each
pub record CanPlan (resources : List PlanResource) (page_size : ℕ) (offsets : List ℕ) : Type 0 where
  pub paged : IsTrue (is_power_of_two page_size)
  pub each : All IsPlannable resources
  pub room : length offsets ≡ length resources

-- the plan of the order with the smallest heap, and what is told beside the offsets
pub record IsPlanned (resources : List PlanResource) (page_size : ℕ) (offsets : List ℕ) (told : HeapPlanned) : Type 0 where
  pub order : Order
  pub order_is : told.order ≡ order_number order
  pub best : IsBestOf page_size (map resource_told resources) all_orders order offsets told.heap_size
  pub aligned : AreAligned (map resource_told resources) offsets
  pub apart : NoneMeet page_size (map resource_told resources) offsets
  pub peak_is : IsPeak (map resource_told resources) told.peak
  pub no_less : told.peak ≤ told.heap_size

-- each resource has an offset, and one has the index
abbrev pub IsOfPlan : List PlanResource → List ℕ → (index : ℕ) → Type 0
IsOfPlan resources offsets index = (length offsets ≡ length resources) × (index < length resources)

-- the indices of those whose bytes the resource at an index has after them, as far as there is room, and how many they are
pub record ShowsReused (resources : List PlanResource) (offsets : List ℕ) (index : ℕ) (old new : List ℕ) (count : ℕ) : Type 0 where
  pub found : List ℕ
  pub reused : AreReused (map resource_told resources) offsets index found
  pub copied : new ≡ copied_into found old
  pub counted : count ≡ length found
