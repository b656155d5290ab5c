-- A memory type: its slots, each empty or with a live block, and what the blocks sum up to.
use Rattle.std.specs.Prelude.{◌≡◌, ℕ, zero, suc, ◌+◌, Bool, true, false, List, [], ◌∷◌, length, Option, Some, None, cond, nat_le}
use Rattle.std.specs.List.{slice_index_or, position}
use Rattle.gpu_block_pieces.specs.FreeList.{IsGap}
use Rattle.gpu_block.specs.Block.{Block, free_list, dedicated, extents_of, size_of, is_shared}

-- a live block: the driver's handle of it, and its pieces
pub record Slot (H : Type 0) : Type 0 where
  pub handle : H
  pub block : Block

-- a memory type; `room` is the number of slots that there is host memory for, `budget` the bound of the sum of its blocks' sizes, where it has one
pub record TypeState (H : Type 0) : Type 0 where
  pub is_host : Bool
  pub granularity : ℕ
  pub slots : List (Option (Slot H))
  pub room : ℕ
  pub budget : Option ℕ

-- ---- sums over the slots

abbrev pub slots_sum : {H : Type 0} → (Option (Slot H) → ℕ) → List (Option (Slot H)) → ℕ
slots_sum f [] = 0
slots_sum f (s ∷ ss) = f s + slots_sum f ss

abbrev pub slot_size : {H : Type 0} → Option (Slot H) → ℕ
slot_size None = 0
slot_size (Some s) = size_of s.block

abbrev pub shared_in : {H : Type 0} → Option (Slot H) → ℕ
shared_in None = 0
shared_in (Some s) = cond (is_shared s.block) 1 0

-- the sum of the sizes of the live blocks
abbrev pub capacity_of : {H : Type 0} → List (Option (Slot H)) → ℕ
capacity_of slots = slots_sum slot_size slots

-- the blocks' sizes may sum up to that much
abbrev pub fits_budget : (budget : Option ℕ) → (sum : ℕ) → Bool
fits_budget None sum = true
fits_budget (Some budget) sum = nat_le sum budget

-- how many live blocks are shared
abbrev pub shared_count : {H : Type 0} → List (Option (Slot H)) → ℕ
shared_count slots = slots_sum shared_in slots

-- ---- single slots

-- the slot at an index, None past the end
abbrev pub slot_at : {H : Type 0} → List (Option (Slot H)) → ℕ → Option (Slot H)
slot_at slots i = slice_index_or slots i None

-- the device's number of a slot's block
abbrev pub block_number : {H : Type 0} → Option (Slot H) → Option H
block_number None = None
block_number (Some s) = Some s.handle

abbrev pub is_empty_slot : {H : Type 0} → Option (Slot H) → Bool
is_empty_slot None = true
is_empty_slot (Some _) = false

-- the highest index below n that passes
abbrev pub highest_below : (ℕ → Bool) → ℕ → Option ℕ
highest_below p zero = None
highest_below p (suc n) = cond (p n) (Some n) (highest_below p n)

abbrev pub lowest_empty : {H : Type 0} → List (Option (Slot H)) → Option ℕ
lowest_empty slots = position is_empty_slot slots

abbrev pub highest_empty : {H : Type 0} → List (Option (Slot H)) → Option ℕ
highest_empty slots = highest_below (λ i. is_empty_slot (slot_at slots i)) (length slots)

-- ---- blocks without pieces

-- a slot whose block has no live piece
abbrev pub HasEmptyBlock : {H : Type 0} → Option (Slot H) → Type 0
HasEmptyBlock None = ⊥
HasEmptyBlock (Some s) = extents_of s.block ≡ []

-- a shared block that is one gap of its whole size
abbrev pub IsOneGap : Block → Type 0
IsOneGap (free_list b) = IsGap b 0 b.size × ((start end : ℕ) → IsGap b start end → (start ≡ 0) × (end ≡ b.size))
IsOneGap (dedicated b) = ⊥

-- a slot whose block is such a one
abbrev pub HasOneGap : {H : Type 0} → Option (Slot H) → Type 0
HasOneGap None = ⊥
HasOneGap (Some s) = IsOneGap s.block

-- at most one block is without pieces, and it is a shared one: one gap of its whole size
pub record KeepsOneEmptyAtMost {H : Type 0} (slots : List (Option (Slot H))) : Type 0 where
  pub one : (i j : ℕ) → HasEmptyBlock (slot_at slots i) → HasEmptyBlock (slot_at slots j) → i ≡ j
  pub whole : (i : ℕ) → HasEmptyBlock (slot_at slots i) → HasOneGap (slot_at slots i)
