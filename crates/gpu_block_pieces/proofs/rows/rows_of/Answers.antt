use Rattle.std.proofs.Common.{◌+◌, ◌∙◌, List, sym, subst, arith, map}
use Rattle.std.specs.Prelude.{All}
use Rattle.std.proofs.lemmas.List.Elements.{All-tail}
use Rattle.std.proofs.lemmas.Bool.{false≢true}
use Rattle.gpu_block_chunks.specs.declared.chunk.Chunk.{Chunk}
use Rattle.gpu_values.specs.Report.{row_of}
use Rattle.gpu_block_chunks.specs.ChunkList.{chunk_of}
use Rattle.gpu_block_pieces.specs.Chunks.{IsChunk}
use Rattle.gpu_block_pieces.proofs.Showing.{first_covers, rows_free, rows_live}
use Rattle.gpu_block_pieces.proofs.rows.rows_of.Goals as goal

pub overflow_add-chunk : goal.overflow_add-chunk
overflow_add-chunk c =
    let l = c.loop-chunk.invariant.laid_out in
    let h = first_covers c.loop-chunk.chunks c.next.new.self (chunk_of c.in-Some.chunk) l.0 l.1 c.in-Some.ensures.chunk l.3 in
    let lt = l.2 in
    omega (arith, h.0, h.2)

pub loop-chunk-preserved-in-Continue-branch-2 : goal.loop-chunk-preserved-in-Continue-branch-2
loop-chunk-preserved-in-Continue-branch-2 c =
    let l = c.loop-chunk.invariant.laid_out in
    let h = first_covers c.loop-chunk.chunks c.next.new.self (chunk_of c.in-Some.chunk) l.0 l.1 c.in-Some.ensures.chunk l.3 in
    let e = c.loop-chunk.invariant.each in
    record {
      rows = rows_live c.loop-chunk.chunks c.next.new.self (chunk_of c.in-Some.chunk) c.loop-chunk.rows.items c.add.new.rows.items c.in_ok-row.row _ c.in-Some.ensures.chunk
          (λ f. false≢true (sym c.if-not-is_free.true ∙ c.is_free.ensures.1 f)) c.in_ok-row.ensures c.in_ok-add.ensures c.loop-chunk.invariant.rows;
      laid_out = (l.0 + c.in-Some.chunk.size, l.1, l.2, h.1);
      each = (e.0, All-tail (IsChunk e.0) (chunk_of c.in-Some.chunk) c.next.new.self (subst (λ (xs : List Chunk). All (IsChunk e.0) xs) c.in-Some.ensures.chunk e.1));
    }

pub loop-chunk-preserved : goal.loop-chunk-preserved
loop-chunk-preserved c =
    let l = c.loop-chunk.invariant.laid_out in
    let h = first_covers c.loop-chunk.chunks c.next.new.self (chunk_of c.in-Some.chunk) l.0 l.1 c.in-Some.ensures.chunk l.3 in
    let e = c.loop-chunk.invariant.each in
    record {
      rows = rows_free c.loop-chunk.chunks c.next.new.self (chunk_of c.in-Some.chunk) (map row_of c.loop-chunk.rows.items) _ c.in-Some.ensures.chunk (c.is_free.ensures.0 c.if-not-is_free.false)
          c.loop-chunk.invariant.rows;
      laid_out = (l.0 + c.in-Some.chunk.size, l.1, l.2, h.1);
      each = (e.0, All-tail (IsChunk e.0) (chunk_of c.in-Some.chunk) c.next.new.self (subst (λ (xs : List Chunk). All (IsChunk e.0) xs) c.in-Some.ensures.chunk e.1));
    }
