-- What is alive in a pass.
use Rattle.std.specs.Prelude.{◌≡◌, ℕ, ◌<◌, ◌≤◌, if◌then◌else◌, ◌&&◌, Bool, nat_le, List, All, Contains, sum_by}
use Rattle.gpu_plan.specs.declared.resource.Resource.{Resource}
use Rattle.gpu_plan.specs.declared.passes.Start.{Start}

-- the resource is alive in a pass
abbrev pub is_alive : (pass : ℕ) → Resource → Bool
is_alive pass r = nat_le r.first pass && nat_le pass r.last

-- the sizes of those alive in a pass, together
abbrev pub bytes_alive : List Resource → (pass : ℕ) → ℕ
bytes_alive resources pass = sum_by (λ r. if is_alive pass r then r.size else 0) resources

-- the most bytes that are alive in one pass
pub record IsPeak (resources : List Resource) (bytes : ℕ) : Type 0 where
  pub most : (pass : ℕ) → bytes_alive resources pass ≤ bytes
  pub pass : ℕ
  pub met : bytes_alive resources pass ≡ bytes

-- of the passes of a resource the one in which the most bytes are alive, of equal ones the first
pub record IsBusiest (resources : List Resource) (r : Resource) (pass : ℕ) : Type 0 where
  pub begun : r.first ≤ pass
  pub going : pass ≤ r.last
  pub most : (p : ℕ) → r.first ≤ p → p ≤ r.last → bytes_alive resources p ≤ bytes_alive resources pass
  pub first : (p : ℕ) → r.first ≤ p → p < pass → bytes_alive resources p < bytes_alive resources pass

-- each start has the bytes that are alive in its pass
abbrev pub AreTrue : List Resource → List Start → Type 0
AreTrue resources starts = All (λ s. s.bytes ≡ bytes_alive resources s.pass) starts

-- one of the starts is at that pass
pub record HasStart (starts : List Start) (pass : ℕ) : Type 0 where
  pub start : Start
  pub listed : Contains starts start
  pub at : start.pass ≡ pass

-- the starts of the lives of all resources, and maybe others, each with the bytes that are alive in its pass
pub record AreStarts (resources : List Resource) (starts : List Start) : Type 0 where
  pub told : AreTrue resources starts
  pub each : All (λ r. HasStart starts r.first) resources
