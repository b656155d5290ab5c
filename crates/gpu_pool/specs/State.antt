-- What callers see of a pool.
use Rattle.std.specs.Prelude.{ℕ, Bool, false, [], List}
use Rattle.std.specs.List.{slice_index_or}
use Rattle.gpu_values.specs.Sizes.{Sizes}
use Rattle.gpu_core.specs.Slots.{AreSound}
use Rattle.gpu_core.specs.Blocks.{Slots, slots_at}
use Rattle.gpu_core.specs.Budgets.{Budgets}

-- the source of blocks, how large shared blocks are, the live blocks by memory type and slot, and the budgets of memory types
pub record State (S H : Type 0) : Type 0 where
  pub source : S
  pub sizes : Sizes
  pub slots : Slots H
  pub budgets : Budgets

-- of the t-th memory type, whether its blocks are of the host's sizes, and its page size
abbrev pub kind_at : List (Bool × ℕ) → (t : ℕ) → Bool × ℕ
kind_at kinds t = slice_index_or kinds t (false, 1)

-- the blocks of the t-th memory type are sound, with its pages
abbrev pub IsSoundAt : {H : Type 0} → List (Bool × ℕ) → Slots H → (t : ℕ) → Type 0
IsSoundAt kinds slots t = AreSound (kind_at kinds t).1 (slots_at slots t)

-- the same pool over what a model sees of its source
abbrev pub over : {S T H : Type 0} → (S → T) → State S H → State T H
over view s = record { source = view s.source; sizes = s.sizes; slots = s.slots; budgets = s.budgets }

-- the same pool, where no memory type has a budget
abbrev pub without_budgets : {S H : Type 0} → State S H → State S H
without_budgets s = record s { budgets = [] }
