use Rattle.std.proofs.Common.{◌∙◌}
use Rattle.gpu_block_chunks.specs.ChunkList.{chunk_of}
use Rattle.gpu_block_pieces.proofs.Runs.{extents-skip, run-first, run-none, run-tail}
use Rattle.gpu_block_pieces.proofs.pieces.first_piece.Goals as goal

pub loop-chunk-preserved : goal.loop-chunk-preserved
loop-chunk-preserved c = record {
  extents = extents-skip c.loop-chunk.chunks c.next.new.self (chunk_of c.in-Some.chunk) c.in-Some.ensures.chunk (c.is_free.ensures.0 c.if-not-is_free.false) ∙ c.loop-chunk.invariant.extents;
  run = λ run. run-tail c.loop-chunk.chunks c.next.new.self (chunk_of c.in-Some.chunk) c.in-Some.ensures.chunk (c.loop-chunk.invariant.run run);
}

pub returns-then-not-is_free-clause-run : goal.returns-then-not-is_free-clause-run
returns-then-not-is_free-clause-run c = λ run. run-tail c.loop-chunk.chunks c.next.new.self (chunk_of c.in-Some.chunk) c.in-Some.ensures.chunk (c.loop-chunk.invariant.run run)

pub returns-then-not-is_free-clause-placed : goal.returns-then-not-is_free-clause-placed
returns-then-not-is_free-clause-placed c = λ run. run-first c.loop-chunk.chunks c.next.new.self (chunk_of c.in-Some.chunk) c.in-Some.ensures.chunk (c.loop-chunk.invariant.run run)

pub returns-clause-run : goal.returns-clause-run
returns-clause-run c = λ run. run-none c.next.new.self c.in_default.ensures.chunk.1
