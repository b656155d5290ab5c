-- Which memory types an allocation may ask, and calls that meet no budget.
use Rattle.std.specs.Prelude.{◌≡◌, ◌⊎◌, ℕ, true, [], Some, None}
use Rattle.gpu_core.specs.Budgets.{Budgets, budget_at}
use Rattle.gpu_vulkan.specs.Choice.{required, first_type, best_type}
use Rattle.gpu_vulkan.specs.Setup.{Setup}
use Rattle.gpu_vulkan.specs.declared.describe.AllocationCreateDesc.{AllocationCreateDesc}
use Rattle.gpu_vulkan.specs.Allocate.{is_for_upload}
use Rattle.gpu_vulkan.specs.Step.{ModelState, Call, Allocate, SetBudget, Budget}

-- an allocation may ask the memory type: it is the one that suits, or for uploads the first that has what they must have
abbrev pub MayAsk : Setup → AllocationCreateDesc → (t : ℕ) → Type 0
MayAsk setup d t =
    (best_type setup.properties.types d.requirements.memory_type_bits d.location ≡ Some t)
    ⊎ ((is_for_upload d.location ≡ true) × (first_type setup.properties.types d.requirements.memory_type_bits (required d.location) ≡ Some t))

-- the call isn't about budgets, and asks no memory type that has one
abbrev pub MeetsNoBudget : Setup → Call → Budgets → Type 0
MeetsNoBudget setup (Allocate d) budgets = (t : ℕ) → MayAsk setup d t → budget_at budgets t ≡ None
MeetsNoBudget setup (SetBudget t budget) budgets = ⊥
MeetsNoBudget setup (Budget t) budgets = ⊥
MeetsNoBudget setup call budgets = Unit {0}

-- the call isn't that which sets a budget
abbrev pub SetsNoBudget : Call → Type 0
SetsNoBudget (SetBudget t budget) = ⊥
SetsNoBudget call = Unit {0}

-- the same blocks and bytes, where no memory type has a budget
abbrev pub without_budgets : ModelState → ModelState
without_budgets s = record s { budgets = [] }
