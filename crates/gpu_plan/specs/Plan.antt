-- Where a resource goes: at the least offset at which it is apart from each earlier one that is alive with it.
use Rattle.std.specs.Prelude.{◌≡◌, ◌≢◌, ℕ, ◌+◌, ◌-◌, ◌/◌, ◌%◌, ◌^◌, ◌<◌, ◌≤◌, ◌⊎◌, List, ◌∷◌, ◌++◌, All, map, take, length, slice_index_or, Bool, nat_le, ◌&&◌}
use Rattle.gpu_plan.specs.declared.resource.Resource.{Resource}
use Rattle.gpu_plan.specs.declared.resource.Placed.{Placed}
use Rattle.gpu_plan.specs.declared.resource.Kind.TheVariants.{Linear}

-- what stands where there is no resource
abbrev pub no_resource : Resource
no_resource = record { size = 0; alignment = 0; kind = Linear; first = 0; last = 0 }

-- the resource at an index
abbrev pub resource_at : List Resource → (index : ℕ) → Resource
resource_at resources index = slice_index_or resources index no_resource

-- both are alive in some pass
abbrev pub Overlap : Resource → Resource → Type 0
Overlap a b = (a.first ≤ b.last) × (b.first ≤ a.last)

-- the same as a test
abbrev pub overlaps : Resource → Resource → Bool
overlaps a b = nat_le a.first b.last && nat_le b.first a.last

-- bytes [o, o + m) and [p, p + n) have one in common
abbrev pub ShareByte : ℕ → ℕ → ℕ → ℕ → Type 0
ShareByte o m p n = (o < p + n) × (p < o + m)

-- they have a page in common
abbrev pub SharePage : ℕ → ℕ → ℕ → ℕ → ℕ → Type 0
SharePage page o m p n = (o / page ≤ (p + n - 1) / page) × (p / page ≤ (o + m - 1) / page)

-- at offset o the resource would meet a placed one: in a byte, or in a page where one of them alone is linear
abbrev pub Meets : ℕ → Resource → ℕ → Placed → Type 0
Meets page r o p =
    Overlap r p.resource
    × (ShareByte o r.size p.offset p.resource.size ⊎ ((r.kind ≢ p.resource.kind) × SharePage page o r.size p.offset p.resource.size))

-- the resource may lie at o
pub record IsFree (page : ℕ) (placed : List Placed) (r : Resource) (o : ℕ) : Type 0 where
  pub aligned : o % r.alignment ≡ 0
  pub apart : All (λ p. Meets page r o p → ⊥) placed

-- the least such offset
pub record IsLeast (page : ℕ) (placed : List Placed) (r : Resource) (o : ℕ) : Type 0 where
  pub free : IsFree page placed r o
  pub least : (q : ℕ) → IsFree page placed r q → o ≤ q

-- each resource lies at the least offset after those before it: the plan
pub record IsPlan (page : ℕ) (resources : List Resource) (placed : List Placed) : Type 0 where
  pub each : map (λ p. p.resource) placed ≡ resources
  pub least : (k : ℕ) (d : Placed) → k < length placed → IsLeast page (take k placed) (slice_index_or placed k d).resource (slice_index_or placed k d).offset

-- no two whose passes overlap meet
abbrev pub AreApart : ℕ → List Placed → Type 0
AreApart page placed = (i j : ℕ) (d : Placed) → i < j → j < length placed → Meets page (slice_index_or placed j d).resource (slice_index_or placed j d).offset (slice_index_or placed i d) → ⊥

-- beside the plan of those before it, a resource's end would pass 64 bits wherever it lay
pub record IsRefused (page : ℕ) (resources : List Resource) : Type 0 where
  pub before : List Placed
  pub next : Resource
  pub planned : (rest : List Resource) × (map (λ p. p.resource) before ++ (next ∷ rest) ≡ resources)
  pub each : (k : ℕ) (d : Placed) → k < length before → IsLeast page (take k before) (slice_index_or before k d).resource (slice_index_or before k d).offset
  pub none : (o : ℕ) → IsFree page before next o → 2 ^ 64 ≤ o + next.size

-- what is asked for isn't empty, has an alignment, and ends no sooner than it begins
abbrev pub IsValid : Resource → Type 0
IsValid r = (0 < r.size) × (0 < r.alignment) × (r.first ≤ r.last)

-- what a body may rely on: nothing is empty, and no end passes 64 bits
pub record IsSound (p : Placed) : Type 0 where
  pub sized : 0 < p.resource.size
  pub within : p.offset + p.resource.size < 2 ^ 64
