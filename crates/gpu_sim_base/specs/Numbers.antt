-- What a simulated device holds, by number: number 1 is in the first slot.
use Rattle.std.specs.Prelude.{ℕ, zero, suc, List, [], ◌∷◌, Option, Some, None, set, slice_index_or}
use Rattle.std.specs.Ordering.{nat_cmp}
use Rattle.std.specs.FinMap.{FinMap, empty, insert}

module _ {T : Type 0} where
  -- the item of a number
  abbrev pub item_at : List (Option T) → ℕ → Option T
  item_at slots zero = None
  item_at slots (suc i) = slice_index_or slots i None

  -- the slots with this in the slot of a number; a number that was not given out has none
  abbrev pub with_item_at : List (Option T) → ℕ → Option T → List (Option T)
  with_item_at slots zero item = slots
  with_item_at slots (suc i) item = set slots i item

-- what is held in the slots, each item seen as an entry, where the first slot has this number
module _ {T E : Type 0} (entry : T → E) where
  abbrev pub held_from : ℕ → List (Option T) → FinMap nat_cmp E
  held_from number [] = empty
  held_from number (None ∷ slots) = held_from (suc number) slots
  held_from number (Some item ∷ slots) = insert (held_from (suc number) slots) number (entry item)

  abbrev pub held_in : List (Option T) → FinMap nat_cmp E
  held_in slots = held_from 1 slots
