use Rattle.std.proofs.Common.{◌≡◌, length, refl, sym, ap, ◌∙◌, subst, arith}
use Rattle.std.specs.Prelude.{IsSomeAnd}
use Rattle.std.specs.Int.NonZero.{non_zero_u64_get}
use Rattle.gpu_cost.specs.Cost.{counts_of}
use Rattle.std.specs.List.{list_any}
use Rattle.gpu_block_chunks.specs.declared.chunk.Chunk.{Chunk}
use Rattle.gpu_block_chunks.specs.ChunkList.{chunk_of}
use Rattle.gpu_block_chunks.specs.Label.{with_word}
use Rattle.gpu_block_pieces.specs.FreeList.{Counted}
use Rattle.gpu_block_pieces.specs.Changes.{worded, SetsWord}
use Rattle.gpu_block_pieces.specs.Search.{LooksUpTo}
use Rattle.gpu_block_pieces.specs.Chunks.{HoldsChunkId, free_list_of, is_gap_by}
use Rattle.gpu_block_pieces.proofs.Sound.{sound_block}
use Rattle.gpu_block_pieces.proofs.Ordered.{ordered_block}
use Rattle.gpu_block_pieces.proofs.Covering.{sound_covered}
use Rattle.gpu_block_pieces.proofs.Numbered.{rename_none, gap_told, none_in_view}
use Rattle.gpu_block_pieces.proofs.Renaming.{Relabelled, reworded, relabels_separated}
use Rattle.gpu_block_chunks.specs.Chain.{StandsAt}
use Rattle.gpu_block_pieces.proofs.Amounts.{bytes_of, labelled_bytes}
use Rattle.gpu_block_pieces.proofs.FoundByChunkId.{held_at}
use Rattle.gpu_block_pieces.proofs.Counting.{looked_up, just, both, rises}
use Rattle.gpu_block_pieces.proofs.free_list.FreeListAllocator.set_word.Goals as goal
use Rattle.gpu_block_pieces.proofs.free_list.FreeListAllocator.set_word.Goals.{After-set_word, After-no_piece}

the_word : (c : After-set_word) → Relabelled c.self.inside.chunks.size c.self.inside.granularity c.self.inside.counter c.self.inside.chunks.items c.set_word.new.self.items
    (non_zero_u64_get c.in-Some.id) (worded c.args.word)
the_word c =
    let e = c.in-Some-piece.ensures.piece in
    let h = held_at c.self.inside.chunks.items (chunk_of c.in-Some-piece._piece) c.get.result e.0 e.1 in
    reworded c.self.inside.chunks.size c.self.inside.granularity c.self.inside.counter c.self.inside.chunks.items c.set_word.new.self.items (length e.1.front) (non_zero_u64_get c.in-Some.id)
    c.args.word c.self.invariant.1
    (subst (λ n. HoldsChunkId c.self.inside.chunks.items n (length e.1.front)) c.get.ensures.value h)
    (c.set_word.ensures.worded (length e.1.front) (subst (λ n. HoldsChunkId c.self.inside.chunks.items n (length e.1.front)) (c.get.ensures.value ∙ sym c.get-2.ensures.value) h))

the_bytes : (c : After-set_word) → bytes_of c.set_word.new.self.items ≡ bytes_of c.self.inside.chunks.items
the_bytes c =
    let e = c.in-Some-piece.ensures.piece in
    let h = subst (λ n. HoldsChunkId c.self.inside.chunks.items n (length e.1.front)) (c.get.ensures.value ∙ sym c.get-2.ensures.value)
    (held_at c.self.inside.chunks.items (chunk_of c.in-Some-piece._piece) c.get.result e.0 e.1) in
    labelled_bytes c.self.inside.chunks.items c.set_word.new.self.items c.get-2.result (length e.1.front) (with_word c.args.word) h (c.set_word.ensures.worded (length e.1.front) h)

pub invariant_of-self-2 : goal.invariant_of-self-2
invariant_of-self-2 c =
    let i = c.self.inside in
    let r = the_word c in
    let b = the_bytes c in
    let held = c.self.invariant.4 in
    rw c.set_word.ensures.size (
      c.self.invariant.0,
      r.are,
      relabels_separated (free_list_of i.chunks.size i.granularity i.counter i.chunks.items) (non_zero_u64_get c.in-Some.id) (worded c.args.word)
          (free_list_of i.chunks.size i.granularity i.counter c.set_word.new.self.items) c.self.invariant.2 r.relabels,
      c.self.invariant.3,
      held ∙ sym b,
    )

pub returns-clause-set : goal.returns-clause-set
returns-clause-set c =
    let i = c.self.inside in
    let new = free_list_of i.chunks.size i.granularity i.counter c.set_word.new.self.items in
    rw c.set_word.ensures.size (subst (λ o. IsSomeAnd o (λ n. SetsWord c.args.self.now.block (non_zero_u64_get n) c.args.word new)) (sym c.in-Some.is)
    (subst (λ b. SetsWord b (non_zero_u64_get c.in-Some.id) c.args.word new) (ap (λ (v : Counted). v.block) c.self.view_is) (the_word c).relabels))

pub returns-clause-sound : goal.returns-clause-sound
returns-clause-sound c =
    let at = (goal.at.returns-clause-sound c).After-set_word in
    rw c.set_word.ensures.size (sound_block c.set_word.new.self.items c.self.inside.chunks.size c.self.inside.granularity c.self.inside.counter (the_word at).are)

pub returns-clause-separated : goal.returns-clause-separated
returns-clause-separated c =
    let at = (goal.at.returns-clause-separated c).After-set_word in
    let i = c.self.inside in
    relabels_separated (free_list_of i.chunks.size i.granularity i.counter i.chunks.items) (non_zero_u64_get c.in-Some.id) (worded c.args.word)
    (free_list_of i.chunks.size i.granularity i.counter c.set_word.new.self.items) c.self.invariant.2 (the_word at).relabels

-- ---- the refusals

pub returns-in_default-piece-clause-cause : goal.returns-in_default-piece-clause-cause
returns-in_default-piece-clause-cause c =
    let i = c.self.inside in
    let n = non_zero_u64_get c.in-Some.id in
    let is_gap = list_any (λ (x : Chunk). is_gap_by x.kind c.get-in_default-piece.result x) i.chunks.items in
    rename_none c.args.self.now.block c.args.chunk_id c.in-Some.id _ is_gap c.in-Some.is
    (none_in_view i.chunks.size i.granularity i.counter i.chunks.items i.chunks.items c.args.self.now.block n c.get.result (ap (λ (v : Counted). v.block) c.self.view_is) refl c.get.ensures.value c.in_default-piece.ensures.piece)
    (gap_told i.chunks.size i.granularity i.counter i.chunks.items i.chunks.items c.args.self.now.block n c.get-in_default-piece.result is_gap (ap (λ (v : Counted). v.block) c.self.view_is) refl
    c.get-in_default-piece.ensures.value refl)
    c.no_piece.ensures.value

pub returns-clause-covered : goal.returns-clause-covered
returns-clause-covered c =
    let at = (goal.at.returns-clause-covered c).After-set_word in
    let i = c.self.inside in
    rw c.set_word.ensures.size (sound_covered (free_list_of i.chunks.size i.granularity i.counter c.set_word.new.self.items)
    (sound_block c.set_word.new.self.items i.chunks.size i.granularity i.counter (the_word at).are))

pub set_word-requires : goal.set_word-requires
set_word-requires c =
    let e = c.in-Some-piece.ensures.piece in
    record {
      chunk = chunk_of c.in-Some-piece._piece;
      at = subst (λ n. StandsAt c.self.inside.chunks.items n (chunk_of c.in-Some-piece._piece)) (c.get.ensures.value ∙ sym c.get-2.ensures.value) e.1;
      live = e.0;
    }

pub returns-clause-ordered : goal.returns-clause-ordered
returns-clause-ordered c =
    let at = (goal.at.returns-clause-ordered c).After-set_word in
    rw c.set_word.ensures.size (ordered_block c.set_word.new.self.items c.self.inside.chunks.size c.self.inside.granularity c.self.inside.counter (the_word at).are)

-- ---- what it looks up

gap_told_by : (c : After-no_piece) → LooksUpTo 2 c.args.self.now.cost (counts_of c.no_piece.new.cost)
gap_told_by c =
    let i = c.self.inside in
    looked_up 2 2 2 i.cost c.no_piece.new.cost c.args.self.now.cost (ap (λ (v : Counted). v.cost) c.self.view_is) (omega arith)
    (both 1 1 1 1 i.cost c.piece.new.cost c.no_piece.new.cost (just 1 i.cost c.piece.new.cost c.in_default-piece.ensures.counted)
    (just 1 c.piece.new.cost c.no_piece.new.cost c.no_piece.ensures.counted))

named_by : (c : After-set_word) → LooksUpTo 2 c.args.self.now.cost (counts_of c.set_word.new.cost)
named_by c =
    let i = c.self.inside in
    looked_up 2 2 2 i.cost c.set_word.new.cost c.args.self.now.cost (ap (λ (v : Counted). v.cost) c.self.view_is) (omega arith)
    (both 1 1 1 1 i.cost c.piece.new.cost c.set_word.new.cost (just 1 i.cost c.piece.new.cost c.in-Some-piece.ensures.counted)
    (just 1 c.piece.new.cost c.set_word.new.cost c.set_word.ensures.counted))

pub returns-in_default-piece-clause-lookups : goal.returns-in_default-piece-clause-lookups
returns-in_default-piece-clause-lookups c = gap_told_by ((goal.at.returns-in_default-piece-clause-lookups c).After-no_piece)

pub returns-in_default-piece-clause-cost : goal.returns-in_default-piece-clause-cost
returns-in_default-piece-clause-cost c = rises 2 _ _ (gap_told_by ((goal.at.returns-in_default-piece-clause-cost c).After-no_piece))

pub returns-clause-lookups : goal.returns-clause-lookups
returns-clause-lookups c = named_by ((goal.at.returns-clause-lookups c).After-set_word)

pub returns-clause-cost : goal.returns-clause-cost
returns-clause-cost c = rises 2 _ _ (named_by ((goal.at.returns-clause-cost c).After-set_word))
