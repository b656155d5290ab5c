-- What a device holds of an allocator's blocks. The device's map has an entry of some type E for each number; a module says which
-- entry a block of a memory type and size may have (IsEntry), and which number its device has for it (number_of).
use Rattle.std.specs.Prelude.{◌≡◌, ◌≢◌, ℕ, Option, Some, None}
use Rattle.std.specs.Ordering.{nat_cmp}
use Rattle.std.specs.FinMap.{FinMap, get}
use Rattle.gpu_block.specs.Block.{Block, size_of}
use Rattle.gpu_core.specs.TypeState.{Slot}
use Rattle.gpu_core.specs.Blocks.{Slots, block_at}

-- a block of the t-th memory type has an entry, and it is one that a block of its size may have
abbrev pub HasEntry : {E : Type 0} → (IsEntry : (t size : ℕ) → E → Type 0) → (t : ℕ) → Block → Option E → Type 0
HasEntry IsEntry t b None = ⊥
HasEntry IsEntry t b (Some e) = IsEntry t (size_of b) e

-- no live block has the number
abbrev pub IsNoBlock : {H : Type 0} → (number_of : H → ℕ) → Slots H → ℕ → Type 0
IsNoBlock {H} number_of slots number = (t i : ℕ) (s : Slot H) → block_at slots t i ≡ Some s → number_of s.handle ≢ number

-- the device holds what it held at first, and just the live blocks: each block has its entry, no two blocks share one, and none was held at first
pub record HoldsBlocks {H E : Type 0} (number_of : H → ℕ) (IsEntry : (t size : ℕ) → E → Type 0) (first held : FinMap nat_cmp E) (slots : Slots H) : Type 0 where
  pub blocks : (t i : ℕ) (s : Slot H) → block_at slots t i ≡ Some s → HasEntry IsEntry t s.block (get held (number_of s.handle))
  pub one_block : (t i u j : ℕ) (s r : Slot H) → block_at slots t i ≡ Some s → block_at slots u j ≡ Some r → number_of s.handle ≡ number_of r.handle → (t ≡ u) × (i ≡ j)
  pub new : (t i : ℕ) (s : Slot H) → block_at slots t i ≡ Some s → get first (number_of s.handle) ≡ None
  pub others : (number : ℕ) → IsNoBlock number_of slots number → get held number ≡ get first number
