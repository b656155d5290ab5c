use Rattle.std.proofs.Common.{ap, subst, List}
use Rattle.gpu_block_chunks.specs.declared.chunk.Chunk.{Chunk}
use Rattle.gpu_block_pieces.specs.Indexed.{LaidChunks, IsLongestOf}
use Rattle.gpu_block_pieces.proofs.LongestGap.{longest_of}
use Rattle.gpu_block_pieces.proofs.chunks.Chunks.longest_gap.Goals as goal

pub returns-clause-longest : goal.returns-clause-longest
returns-clause-longest c =
    let longest = c.longest.ensures in
    subst (λ (xs : List Chunk). IsLongestOf xs c.longest.result) (ap (λ (v : LaidChunks). v.items) c.self.view_is)
    (longest_of c.self.inside.chain.chunks c.self.inside.index.gaps c.longest.result c.self.invariant.listed.same longest.bound longest.reached)
