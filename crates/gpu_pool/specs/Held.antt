-- What a source holds of a pool's blocks.
use Rattle.std.specs.Prelude.{◌≡◌, ℕ, List, [], ◌∷◌, Some, None, IsSome}
use Rattle.gpu_block.specs.Block.{size_of}
use Rattle.gpu_core.specs.TypeState.{Slot}
use Rattle.gpu_core.specs.Blocks.{Slots, block_at}
use Rattle.gpu_core.specs.Held.{IsNoBlock}
use Rattle.gpu_pool.specs.Source.{HeldBlock, HeldBlocks, Removes}

-- what a source holds of a block of the t-th memory type
abbrev pub held_as : {H : Type 0} → (t : ℕ) → Slot H → HeldBlock
held_as t s = record { memory_type = t; size = size_of s.block }

-- the source holds just the live blocks: each under its own number, with its memory type and size, and nothing under any other number
pub record HoldsJustBlocks {H : Type 0} (number : H → ℕ) (held : HeldBlocks) (slots : Slots H) : Type 0 where
  pub blocks : (t i : ℕ) (s : Slot H) → block_at slots t i ≡ Some s → held (number s.handle) ≡ Some (held_as t s)
  pub one_block : (t i u j : ℕ) (s r : Slot H) → block_at slots t i ≡ Some s → block_at slots u j ≡ Some r → number s.handle ≡ number r.handle → (t ≡ u) × (i ≡ j)
  pub others : (n : ℕ) → IsNoBlock number slots n → held n ≡ None

-- the source holds just the blocks of these handles, so that each can go back, one after another
abbrev pub HoldsJust : {H : Type 0} → (number : H → ℕ) → HeldBlocks → List H → Type 0
HoldsJust number held [] = (n : ℕ) → held n ≡ None
HoldsJust number held (handle ∷ handles) =
    IsSome (held (number handle)) × ((after : HeldBlocks) → Removes held (number handle) after → HoldsJust number after handles)
