-- What each outcome of a try says.
use Rattle.std.specs.Prelude.{◌≡◌, ℕ, ◌%◌, ◌^◌, ◌<◌, ◌≤◌, List, All}
use Rattle.gpu_plan.specs.declared.resource.Resource.{Resource}
use Rattle.gpu_plan.specs.declared.resource.Placed.{Placed}
use Rattle.gpu_plan.specs.declared.place.Outcome.{Outcome}
use Rattle.gpu_plan.specs.declared.place.Outcome.TheVariants.{Free, Next, Past}
use Rattle.gpu_plan.specs.Plan.{Meets, IsFree}

-- from an offset that meets a placed one: each aligned offset below the next meets it too, or each with room below 2 ^ 64
abbrev pub Skips : ℕ → Resource → ℕ → Placed → Outcome → Type 0
Skips page r o p Free = Meets page r o p → ⊥
Skips page r o p (Next n) = (o < n) × (n % r.alignment ≡ 0) × ((q : ℕ) → o ≤ q → q < n → q % r.alignment ≡ 0 → Meets page r q p)
Skips page r o p Past = (q : ℕ) → o ≤ q → q % r.alignment ≡ 0 → q < 2 ^ 64 → Meets page r q p

-- the same of all placed ones
abbrev pub Tries : ℕ → List Placed → Resource → ℕ → Outcome → Type 0
Tries page placed r o Free = All (λ p. Meets page r o p → ⊥) placed
Tries page placed r o (Next n) = (o < n) × (n % r.alignment ≡ 0) × ((q : ℕ) → o ≤ q → q < n → IsFree page placed r q → ⊥)
Tries page placed r o Past = (q : ℕ) → o ≤ q → q < 2 ^ 64 → IsFree page placed r q → ⊥
