use Rattle.std.proofs.Common.{◌∙◌, ap, sym, subst, List, ℕ}
use Rattle.gpu_block_chunks.specs.declared.chunk.Chunk.{Chunk}
use Rattle.gpu_block_chunks.specs.Label.{with_word}
use Rattle.gpu_block_pieces.specs.Chunks.{HoldsChunkId, IsLabelledAt}
use Rattle.gpu_block_chunks.specs.Chain.{HasChunkId}
use Rattle.gpu_block_pieces.specs.Indexed.{LaidChunks, IsPieceAt}
use Rattle.gpu_block_pieces.proofs.FoundByChunkId.{labelled_listed, labelled_live, labelled_at, worded_is}
use Rattle.gpu_block_pieces.proofs.chunks.Chunks.set_word.Goals as goal

pub set_word-requires : goal.set_word-requires
set_word-requires c =
    record { there = subst (λ (xs : List Chunk). HasChunkId xs c.args.chunk_id) (sym (ap (λ (v : LaidChunks). v.items) c.self.view_is)) (c.requires.chunk, c.requires.at) }

pub invariant_of-self : goal.invariant_of-self
invariant_of-self c =
    let cs = c.self.inside.chain.chunks in
    let ds = c.set_word.new.self.chunks in
    let n = c.args.chunk_id in
    let w = c.laid_out.ensures.distinct in
    let p = subst (λ (xs : List Chunk). IsPieceAt xs n) (sym (ap (λ (v : LaidChunks). v.items) c.self.view_is)) c.requires in
    let is = worded_is cs ds n c.args.word w p c.set_word.ensures.chunks in
    record {
      listed = labelled_listed cs ds n (with_word c.args.word) w p is c.self.inside.index.gaps c.self.invariant.listed;
      counted = c.self.invariant.counted ∙ sym (labelled_live cs ds n (with_word c.args.word) w p is);
      roomy = c.self.invariant.roomy;
    }

pub returns-clause-worded : goal.returns-clause-worded
returns-clause-worded c =
    let cs = c.self.inside.chain.chunks in
    let ds = c.set_word.new.self.chunks in
    let n = c.args.chunk_id in
    let w = c.laid_out.ensures.distinct in
    let e = ap (λ (v : LaidChunks). v.items) c.self.view_is in
    let p = subst (λ (xs : List Chunk). IsPieceAt xs n) (sym e) c.requires in
    subst (λ (xs : List Chunk). (i : ℕ) → HoldsChunkId xs n i → IsLabelledAt xs i (with_word c.args.word) ds) e
    (labelled_at cs ds n (with_word c.args.word) w p (worded_is cs ds n c.args.word w p c.set_word.ensures.chunks))
