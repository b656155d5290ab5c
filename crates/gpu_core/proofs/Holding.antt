-- What the device's numbers say of blocks.
use Rattle.std.proofs.Common.{◌≡◌, ◌∙◌, sym, ap, ℕ, Option, Some, None}
use Rattle.std.specs.FinMap.{FinMap, get}
use Rattle.gpu_block.specs.Block.{Block}
use Rattle.std.specs.Ordering.{nat_cmp}
use Rattle.gpu_core.specs.Blocks.{Slots}
use Rattle.gpu_core.specs.Held.{HasEntry, IsNoBlock, HoldsBlocks}
use Rattle.gpu_core.proofs.Options.{none_some}

is_held : {E : Type 0} (IsEntry : (t size : ℕ) → E → Type 0) (t : ℕ) (b : Block) (e : Option E) → HasEntry IsEntry t b e → e ≡ None → ⊥
is_held IsEntry t b None entry none = entry
is_held IsEntry t b (Some e) entry none = none_some e (sym none)

-- a number that isn't held is no live block's
pub not_a_block : {H E : Type 0} (number_of : H → ℕ) (IsEntry : (t size : ℕ) → E → Type 0) (first held : FinMap nat_cmp E) (ss : Slots H) (n : ℕ)
    → HoldsBlocks number_of IsEntry first held ss → get held n ≡ None → IsNoBlock number_of ss n
not_a_block number_of IsEntry first held ss n h none t i s at is =
    is_held IsEntry t s.block (get held (number_of s.handle)) (h.blocks t i s at) (ap (get held) is ∙ none)
