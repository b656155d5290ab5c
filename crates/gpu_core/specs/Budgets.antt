-- Budgets: how many bytes the live blocks of each memory type may sum up to, where their user set a bound.
use Rattle.std.specs.Prelude.{◌≡◌, ℕ, ◌+◌, ◌^◌, ◌<◌, ◌≤◌, List, length, map, Option, Some, None, codes, nat_lt, if◌then◌else◌}
use Rattle.std.specs.List.{slice_index_or, slice_set}
use Rattle.gpu_values.specs.Refusal.{Refusal, internal, out_of_memory, budget_exceeded}
use Rattle.gpu_core.specs.TypeState.{fits_budget}
use Rattle.gpu_core.specs.Types.{Types}

-- of each memory type, its budget, where it has one
abbrev pub Budgets : Type 0
Budgets = List (Option ℕ)

abbrev pub budgets : {H : Type 0} → Types H → Budgets
budgets types = map (λ t. t.budget) types

-- the budget of the t-th memory type; one that isn't there has none
abbrev pub budget_at : Budgets → (t : ℕ) → Option ℕ
budget_at budgets t = slice_index_or budgets t None

-- why the device isn't asked for a new block of that size, where all blocks sum up to `used` and those of its memory type to `capacity`: their sum would pass 64 bits, else that of its type the
-- budget
abbrev pub block_refusal : (used : ℕ) → (budget : Option ℕ) → (capacity size : ℕ) → Option Refusal
block_refusal used budget capacity size =
    if nat_lt (used + size) (2 ^ 64) then (if fits_budget budget (capacity + size) then None else Some budget_exceeded) else Some out_of_memory

-- the t-th memory type's budget is set; where there is no such type, that is refused and nothing changes
abbrev pub SetsBudget : (t : ℕ) → (budget : Option ℕ) → (old : Budgets) → Option Refusal → (new : Budgets) → Type 0
SetsBudget t budget old None new = (t < length old) × (new ≡ slice_set old t budget)
SetsBudget t budget old (Some r) new = (length old ≤ t) × (r ≡ internal (codes "No such memory type.") None) × (new ≡ old)
