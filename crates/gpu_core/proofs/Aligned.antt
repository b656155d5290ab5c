-- A piece that a block allocates begins at a multiple of the alignment that was asked for.
use Rattle.std.proofs.Common.{◌≡◌, ℕ, ◌%◌, sym, subst, arith}
use Rattle.gpu_block.specs.Block.{Block, free_list, dedicated, TakesIn}
use Rattle.gpu_block_pieces.specs.Request.{Request}

abbrev IsAligned : (offset alignment : ℕ) → Type 0
IsAligned offset alignment = offset % alignment ≡ 0

pub takes_aligned : (old : Block) (r : Request) (o n : ℕ) (new : Block) → TakesIn old r o n new → IsAligned o r.alignment
takes_aligned (free_list old) r o n (free_list new) t = t.chosen.fits.between.begins.begins.aligned
takes_aligned (free_list old) r o n (dedicated new) t = absurd t
takes_aligned (dedicated old) r o n (free_list new) t = absurd t
takes_aligned (dedicated old) r o n (dedicated new) t = subst (λ k. IsAligned k r.alignment) (sym t.2) (zero_aligned r.alignment)
  where
    zero_aligned : (a : ℕ) → IsAligned 0 a
    zero_aligned a = omega arith
