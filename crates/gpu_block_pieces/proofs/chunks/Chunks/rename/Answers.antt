use Rattle.std.proofs.Common.{◌∙◌, ap, sym, subst, List, ℕ}
use Rattle.gpu_block_chunks.specs.declared.chunk.Chunk.{Chunk}
use Rattle.gpu_block_chunks.specs.Label.{with_name}
use Rattle.gpu_block_pieces.specs.Chunks.{HoldsChunkId, IsLabelledAt}
use Rattle.gpu_block_chunks.specs.Chain.{HasChunkId}
use Rattle.gpu_block_pieces.specs.Indexed.{LaidChunks, IsPieceOf}
use Rattle.gpu_block_pieces.proofs.FoundByChunkId.{labelled_listed, labelled_live, labelled_at, piece_at, named_is}
use Rattle.gpu_block_pieces.proofs.chunks.Chunks.rename.Goals as goal

pub fill-requires : goal.fill-requires
fill-requires c =
    record { there = subst (λ (xs : List Chunk). HasChunkId xs c.args.chunk_id) (sym (ap (λ (v : LaidChunks). v.items) c.self.view_is)) (c.requires.piece.chunk, c.requires.piece.at) }

pub invariant_of-self : goal.invariant_of-self
invariant_of-self c =
    let cs = c.self.inside.chain.chunks in
    let ds = c.fill.new.self.chunks in
    let n = c.args.chunk_id in
    let w = c.laid_out.ensures.distinct in
    let p = subst (λ (xs : List Chunk). IsPieceOf xs n c.args.offset c.args.kind c.args.label.word) (sym (ap (λ (v : LaidChunks). v.items) c.self.view_is)) c.requires.piece in
    let q = piece_at cs n c.args.offset c.args.kind c.args.label.word p in
    let is = named_is cs ds n c.args.offset c.args.kind c.args.label w p c.fill.ensures.chunks in
    record {
      listed = labelled_listed cs ds n (with_name c.args.label.name) w q is c.self.inside.index.gaps c.self.invariant.listed;
      counted = c.self.invariant.counted ∙ sym (labelled_live cs ds n (with_name c.args.label.name) w q is);
      roomy = c.self.invariant.roomy;
    }

pub returns-clause-named : goal.returns-clause-named
returns-clause-named c =
    let cs = c.self.inside.chain.chunks in
    let ds = c.fill.new.self.chunks in
    let n = c.args.chunk_id in
    let w = c.laid_out.ensures.distinct in
    let e = ap (λ (v : LaidChunks). v.items) c.self.view_is in
    let p = subst (λ (xs : List Chunk). IsPieceOf xs n c.args.offset c.args.kind c.args.label.word) (sym e) c.requires.piece in
    let q = piece_at cs n c.args.offset c.args.kind c.args.label.word p in
    subst (λ (xs : List Chunk). (i : ℕ) → HoldsChunkId xs n i → IsLabelledAt xs i (with_name c.args.label.name) ds) e
    (labelled_at cs ds n (with_name c.args.label.name) w q (named_is cs ds n c.args.offset c.args.kind c.args.label w p c.fill.ensures.chunks))
