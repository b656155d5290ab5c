use Rattle.std.proofs.Common.{◌∙◌, ap}
use Rattle.std.specs.List.{list_any}
use Rattle.gpu_block_chunks.specs.ChunkList.{chunk_of}
use Rattle.gpu_block_pieces.specs.Chunks.{is_gap_by}
use Rattle.gpu_block_pieces.specs.Indexed.{LaidChunks}
use Rattle.gpu_block_pieces.proofs.FoundByChunkId.{no_gap_of, gap_of_chunk}
use Rattle.gpu_block_pieces.proofs.chunks.Chunks.has_gap.Goals as goal

pub returns-in-Some-clause-gap : goal.returns-in-Some-clause-gap
returns-in-Some-clause-gap c =
    gap_of_chunk c.self.inside.chain.chunks (chunk_of c.in-Some.chunk) c.args.chunk_id c.is_free.result c.laid_out.ensures.distinct c.in-Some.ensures.value.at c.is_free.ensures
    ∙ ap (λ (v : LaidChunks). list_any (λ x. is_gap_by x.kind c.args.chunk_id x) v.items) c.self.view_is

pub returns-in-None-clause-gap : goal.returns-in-None-clause-gap
returns-in-None-clause-gap c =
    no_gap_of c.self.inside.chain.chunks c.args.chunk_id c.in-None.ensures.value ∙ ap (λ (v : LaidChunks). list_any (λ x. is_gap_by x.kind c.args.chunk_id x) v.items) c.self.view_is
