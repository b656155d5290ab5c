use Rattle.std.proofs.Common.{refl, ◌∙◌, arith}
use Rattle.gpu_block_pieces.proofs.Indexing.{fresh_listed}
use Rattle.gpu_block_pieces.proofs.chunks.Chunks.new.Goals as goal

pub invariant_of-result : goal.invariant_of-result
invariant_of-result c = rw c.in_ok-chain.ensures.1 (record {
  listed = fresh_listed _ c.insert.new.self.gaps c.args.size (c.in_ok-reserve_to.ensures.same ∙ c.new-index.ensures.gaps) c.insert.ensures.gaps;
  counted = refl;
  roomy = omega (arith, c.insert.ensures.room, c.in_ok-reserve_to.ensures.room);
})
