-- The orders in which resources are placed.
use Rattle.std.specs.Prelude.{◌≡◌, ℕ, ◌+◌, ◌-◌, ◌*◌, ◌^◌, ◌<◌, ◌≤◌, ◌⊎◌, List, [], ◌∷◌, length, slice_index}
use Rattle.std.specs.List.{range_with_len}
use Rattle.std.specs.List.Sorted.{IsPermutation}
use Rattle.gpu_plan.specs.declared.resource.Resource.{Resource}
use Rattle.gpu_plan.specs.declared.order.Order.{Order}
use Rattle.gpu_plan.specs.declared.order.Order.TheVariants.{Size, Area, Alignment, Magnitude, Breadth}
use Rattle.gpu_plan.specs.Plan.{resource_at}
use Rattle.gpu_plan.specs.Passes.{bytes_alive, IsBusiest}

-- a part of what an order compares: the one with the most goes first, or the one with the least
pub data Part : Type 0 where
  Most : ℕ → Part
  Least : ℕ → Part

-- the first part in which two keys differ decides that the first key goes first
abbrev pub Leads : List Part → List Part → Type 0
Leads (Most a ∷ rest) (Most b ∷ others) = (b < a) ⊎ ((a ≡ b) × Leads rest others)
Leads (Least a ∷ rest) (Least b ∷ others) = (a < b) ⊎ ((a ≡ b) × Leads rest others)
Leads _ _ = ⊥

-- in how many passes the resource is alive
abbrev pub passes_of : Resource → ℕ
passes_of r = r.last + 1 - r.first

-- n is the logarithm of a number to the base 2, rounded down
abbrev pub IsLog2 : (x n : ℕ) → Type 0
IsLog2 x n = (2 ^ n ≤ x) × (x < 2 ^ (n + 1))

-- what an order compares of the resource at an index; the index is last, so that no two keys are equal
abbrev pub IsKey : Order → List Resource → (index : ℕ) → List Part → Type 0
IsKey Size resources i key = let r = resource_at resources i in key ≡ Most r.size ∷ Least i ∷ []
IsKey Area resources i key = let r = resource_at resources i in key ≡ Most (r.size * passes_of r) ∷ Least i ∷ []
IsKey Alignment resources i key = let r = resource_at resources i in key ≡ Most r.alignment ∷ Most r.size ∷ Least i ∷ []
IsKey Magnitude resources i key = let r = resource_at resources i in (n : ℕ) × IsLog2 r.size n × (key ≡ Most n ∷ Most (passes_of r) ∷ Most r.size ∷ Least i ∷ [])
IsKey Breadth resources i key = let r = resource_at resources i in (pass : ℕ) × IsBusiest resources r pass × (key ≡ Most (bytes_alive resources pass) ∷ Least pass ∷ Most r.size ∷ Least i ∷ [])

-- the resource at i goes before the one at j
pub record Precedes (order : Order) (resources : List Resource) (i j : ℕ) : Type 0 where
  pub key : List Part
  pub next : List Part
  pub key_is : IsKey order resources i key
  pub next_is : IsKey order resources j next
  pub leads : Leads key next

-- the indices of all resources, each before the next
pub record IsOrder (order : Order) (resources : List Resource) (indices : List ℕ) : Type 0 where
  pub permutation : IsPermutation (range_with_len 0 (length resources)) indices
  pub sorted : (k : ℕ) → k + 1 < length indices → Precedes order resources (slice_index indices k) (slice_index indices (k + 1))
