-- A search along the index.
use Rattle.std.specs.Prelude.{◌≡◌, ℕ, ◌≤◌, ◌==◌, List, length, slice_index}
use Rattle.std.specs.List.{position_or_len}
use Rattle.gpu_block_gaps.specs.declared.index.Gap.{Gap}

-- the gaps of the index, and the place of the next one to be tested
pub record Scanned : Type 0 where
  pub gaps : List Gap
  pub place : ℕ

-- the slot is one of the order, or 0, which stands behind it
abbrev pub StandsIn : ℕ → List ℕ → Type 0
StandsIn slot order = (k : ℕ) × (k ≤ length order) × (slot ≡ slice_index order k)

-- where a slot stands in the order
abbrev pub place_in : ℕ → List ℕ → ℕ
place_in slot order = position_or_len (λ x. x == slot) order
