-- The plan of the best order.
use Rattle.std.specs.Prelude.{◌≡◌, ◌≢◌, ℕ, ◌%◌, ◌^◌, ◌<◌, ◌≤◌, List, length, slice_index}
use Rattle.gpu_plan.specs.declared.resource.Resource.{Resource}
use Rattle.gpu_plan.specs.declared.order.Order.{Order}
use Rattle.gpu_plan.specs.declared.order.Order.TheVariants.{Size, Area, Alignment, Magnitude, Breadth}
use Rattle.gpu_plan.specs.Plan.{resource_at, Meets}
use Rattle.gpu_plan.specs.OrderPlan.{placed_at, IsPlanBy, IsHeap}

-- which order is chosen of those whose heaps are equal: the one with the least number
abbrev pub number_of : Order → ℕ
number_of Size = 0
number_of Area = 1
number_of Alignment = 2
number_of Magnitude = 3
number_of Breadth = 4

-- of the first orders, this one has the smallest heap, and those before it have larger ones
pub record IsBestOf (page : ℕ) (resources : List Resource) (orders : ℕ) (order : Order) (offsets : List ℕ) (heap : ℕ) : Type 0 where
  pub among : number_of order < orders
  pub planned : IsPlanBy page order resources offsets
  pub heap_is : IsHeap resources offsets heap
  pub smallest : (other : Order) (at : List ℕ) (size : ℕ) → number_of other < orders → IsPlanBy page other resources at → IsHeap resources at size → heap ≤ size
  pub first : (other : Order) (at : List ℕ) (size : ℕ) → number_of other < number_of order → IsPlanBy page other resources at → IsHeap resources at size → heap < size

-- each of the first orders has a heap that passes 64 bits
abbrev pub NoneFits : (page : ℕ) → List Resource → (orders : ℕ) → Type 0
NoneFits page resources orders = (order : Order) (offsets : List ℕ) (heap : ℕ) → number_of order < orders → IsPlanBy page order resources offsets → IsHeap resources offsets heap → 2 ^ 64 ≤ heap

-- all orders are five
abbrev pub all_orders : ℕ
all_orders = 5

-- each offset is a multiple of its resource's alignment
abbrev pub AreAligned : List Resource → (offsets : List ℕ) → Type 0
AreAligned resources offsets = (i : ℕ) → i < length resources → slice_index offsets i % (resource_at resources i).alignment ≡ 0

-- two resources that are alive in one pass share no byte, and no page where their kinds differ
abbrev pub NoneMeet : (page : ℕ) → List Resource → (offsets : List ℕ) → Type 0
NoneMeet page resources offsets = (i j : ℕ) → i < length resources → j < length resources → i ≢ j → Meets page (resource_at resources i) (slice_index offsets i) (placed_at resources offsets j) → ⊥
