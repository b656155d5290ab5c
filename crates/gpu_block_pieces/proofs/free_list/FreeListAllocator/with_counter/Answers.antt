use Rattle.std.proofs.Common.{◌≡◌, ℕ, [], List, ap, sym, subst, rules, arith}
use Rattle.gpu_block_pieces.specs.Chunks.{AreChunks, extents_of}
use Rattle.gpu_block_pieces.proofs.Ordered.{fresh_are, fresh_ordered}
use Rattle.gpu_block_pieces.proofs.free_list.FreeListAllocator.with_counter.Goals as goal

pub invariant_of-result : goal.invariant_of-result
invariant_of-result c =
    let chunks = c.in_ok-chunks.chunks in
    let size = c.in_ok-chunks.ensures.0 in
    let none : extents_of chunks.items ≡ [] = ap extents_of c.in_ok-chunks.ensures.1 in (
      c.requires.paged,
      subst (λ (n : ℕ). AreChunks chunks.items n c.args.counter) (sym size)
          (fresh_are chunks.items c.args.size c.args.counter c.requires.sized c.requires.counted c.in_ok-chunks.ensures.1),
      rw none (search rules),
      omega (arith, c.ranges.size.fits),
      rw none (search rules),
    )

pub returns-clause-ordered : goal.returns-clause-ordered
returns-clause-ordered c =
    fresh_ordered c.in_ok-chunks.chunks.items c.args.size c.in_ok-chunks.chunks.size c.args.granularity c.args.counter c.requires.sized c.requires.counted c.in_ok-chunks.ensures.0
    c.in_ok-chunks.ensures.1
