use Rattle.std.proofs.Common.{subst}
use Rattle.gpu_values.specs.declared.allocation_type.AllocationType.TheVariants.{Free}
use Rattle.gpu_block_pieces.specs.Indexed.{LaidChunks, HasSame, gaps_between}
use Rattle.gpu_block_pieces.proofs.Indexing.{placed_all}
use Rattle.gpu_block_pieces.proofs.chunks.Chunks.gaps.Goals as goal

pub returns-clause-same : goal.returns-clause-same
returns-clause-same c = subst (λ (v : LaidChunks). HasSame c.self.inside.index.gaps (gaps_between Free v.items Free)) c.self.view_is c.self.invariant.listed.same

pub returns-clause-placed : goal.returns-clause-placed
returns-clause-placed c =
    placed_all c.self.inside.chain.chunks c.self.inside.index.gaps c.self.inside.chain.size c.laid_out.ensures.covers c.laid_out.ensures.bounded c.self.invariant.listed.same
