-- What a source holds of blocks, and what a question and a block that goes back change of it.
use Rattle.std.specs.Prelude.{◌≡◌, ◌≢◌, ℕ, Option, Some, None, Result, Ok, Err}
use Rattle.gpu_values.specs.Refusal.{Refusal, refusal_of}
use Rattle.gpu_values.specs.declared.error.AllocationError.{AllocationError}

-- a block as its source holds it: its memory type, and its size in bytes
pub record HeldBlock : Type 0 where
  pub memory_type : ℕ
  pub size : ℕ

-- the blocks that a source holds, by number
abbrev pub HeldBlocks : Type 0
HeldBlocks = ℕ → Option HeldBlock

-- one block more, under a number that was free
pub record Adds (old : HeldBlocks) (number : ℕ) (block : HeldBlock) (new : HeldBlocks) : Type 0 where
  pub was_free : old number ≡ None
  pub held : new number ≡ Some block
  pub others : (n : ℕ) → n ≢ number → new n ≡ old n

-- the block of this number is gone, and no other
pub record Removes (old : HeldBlocks) (number : ℕ) (new : HeldBlocks) : Type 0 where
  pub gone : new number ≡ None
  pub others : (n : ℕ) → n ≢ number → new n ≡ old n

-- what is held under a number, as a block; what was there at first is none
abbrev pub block_since : {E : Type 0} → (as_block : Option E → Option HeldBlock) → (at_first now : Option E) → Option HeldBlock
block_since as_block None now = as_block now
block_since as_block (Some e) now = None

-- a result, its error as a refusal
abbrev pub result_of : {A : Type 0} → Result A AllocationError → Result A Refusal
result_of (Ok a) = Ok a
result_of (Err e) = Err (refusal_of e)

-- a question that is granted adds the block, one that is refused changes nothing that is held
abbrev pub HoldsAfter : {H : Type 0} → (number : H → ℕ) → (old : HeldBlocks) → HeldBlock → Result H Refusal → (new : HeldBlocks) → Type 0
HoldsAfter number old block (Ok handle) new = Adds old (number handle) block new
HoldsAfter number old block (Err refusal) new = (n : ℕ) → new n ≡ old n
