-- Which commands a line of words can say.
use Rattle.std.proofs.Common.{◌≢◌, ℕ, ◌<◌, ◌^◌, List, ◌∷◌, get_or}
use Rattle.std.specs.Prelude.{codes}
use Rattle.std.specs.Borrow.{Bor}
use Rattle.std.specs.Fmt.{decimal}
use Rattle.gpu_block_session.specs.declared.block.command.Command.{Command}
use Rattle.gpu_block_session.specs.declared.block.command.Command.TheVariants.{Block, Allocate, Free, Report}
use Rattle.gpu_block_session.specs.BlockWords.{IsPowerOfTwo, Spells}
use Rattle.gpu_block_session.specs.Words.{texts}

pub granularity_only : (arguments : List (Bor (List ℕ))) (d : Bor (List ℕ)) → ((n : ℕ) → n < 2 ^ 64 → IsPowerOfTwo n → (get_or arguments 4 d).now ≢ decimal n) → (x : Command) → Spells
    (codes "block" ∷ texts arguments) x → ⊥
granularity_only (a ∷ b ∷ m ∷ k ∷ e ∷ rest) d h (Block s x y z g) f = h g f.fits.3 f.fits.4 (let i = f.is in cc)
granularity_only arguments d h (Block s x y z g) f = let i = f.is in cc
granularity_only arguments d h (Allocate k n a y t) f = let i = f.is in cc
granularity_only arguments d h (Free k) f = let i = f.is in cc
granularity_only arguments d h Report f = let i = f.is in cc
