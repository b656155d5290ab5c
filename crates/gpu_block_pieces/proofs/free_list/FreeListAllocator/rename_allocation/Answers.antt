use Rattle.std.proofs.Common.{◌≡◌, length, refl, sym, ap, ◌∙◌, subst, arith}
use Rattle.std.specs.Prelude.{IsSomeAnd}
use Rattle.std.specs.Int.NonZero.{non_zero_u64_get}
use Rattle.gpu_cost.specs.Cost.{counts_of}
use Rattle.std.specs.List.{list_any}
use Rattle.gpu_block_chunks.specs.declared.chunk.Chunk.{Chunk}
use Rattle.gpu_block_chunks.specs.ChunkList.{chunk_of}
use Rattle.gpu_block_chunks.specs.Label.{with_name}
use Rattle.gpu_block_pieces.specs.FreeList.{Counted}
use Rattle.gpu_block_pieces.specs.Changes.{named, Renames}
use Rattle.gpu_block_pieces.specs.Search.{LooksUpTo}
use Rattle.gpu_block_pieces.specs.Chunks.{HoldsChunkId, free_list_of, is_gap_by}
use Rattle.gpu_values.specs.Refusal.{host_out_of_memory}
use Rattle.gpu_block_pieces.proofs.Sound.{sound_block}
use Rattle.gpu_block_pieces.proofs.Ordered.{ordered_block}
use Rattle.gpu_block_pieces.proofs.Covering.{sound_covered}
use Rattle.gpu_block_pieces.proofs.Numbered.{rename_none, rename_live, rename_host, gap_told, none_in_view, live_in_view}
use Rattle.gpu_block_pieces.proofs.Renaming.{Relabelled, renamed, relabels_separated}
use Rattle.gpu_block_chunks.specs.Chain.{StandsAt}
use Rattle.gpu_block_pieces.proofs.Amounts.{bytes_of, labelled_bytes}
use Rattle.gpu_block_pieces.proofs.FoundByChunkId.{held_at}
use Rattle.gpu_block_pieces.proofs.Counting.{looked_up, just, both, rises}
use Rattle.gpu_block_pieces.proofs.free_list.FreeListAllocator.rename_allocation.Goals as goal
use Rattle.gpu_block_pieces.proofs.free_list.FreeListAllocator.rename_allocation.Goals.{After-rename, After-no_piece, In-Some-piece}

the_rename : (c : After-rename) → Relabelled c.self.inside.chunks.size c.self.inside.granularity c.self.inside.counter c.self.inside.chunks.items c.rename.new.self.items
    (non_zero_u64_get c.in-Some.id) (named c.args.name.now)
the_rename c =
    let e = c.in-Some-piece.ensures.piece in
    let h = held_at c.self.inside.chunks.items (chunk_of c.in-Some-piece.piece) c.get.result e.0 e.1 in
    renamed c.self.inside.chunks.size c.self.inside.granularity c.self.inside.counter c.self.inside.chunks.items c.rename.new.self.items (length e.1.front) (non_zero_u64_get c.in-Some.id)
    c.in_ok-new_name.new_name c.args.name.now c.in_ok-new_name.ensures.text c.self.invariant.1
    (subst (λ n. HoldsChunkId c.self.inside.chunks.items n (length e.1.front)) c.get.ensures.value h)
    (c.rename.ensures.named (length e.1.front) (subst (λ n. HoldsChunkId c.self.inside.chunks.items n (length e.1.front)) (c.get.ensures.value ∙ sym c.get-2.ensures.value) h))

the_bytes : (c : After-rename) → bytes_of c.rename.new.self.items ≡ bytes_of c.self.inside.chunks.items
the_bytes c =
    let e = c.in-Some-piece.ensures.piece in
    let h = subst (λ n. HoldsChunkId c.self.inside.chunks.items n (length e.1.front)) (c.get.ensures.value ∙ sym c.get-2.ensures.value)
    (held_at c.self.inside.chunks.items (chunk_of c.in-Some-piece.piece) c.get.result e.0 e.1) in
    labelled_bytes c.self.inside.chunks.items c.rename.new.self.items c.get-2.result (length e.1.front) (with_name c.in_ok-new_name.new_name) h (c.rename.ensures.named (length e.1.front) h)

pub invariant_of-self-2 : goal.invariant_of-self-2
invariant_of-self-2 c =
    let i = c.self.inside in
    let r = the_rename c in
    let b = the_bytes c in
    let held = c.self.invariant.4 in
    rw c.rename.ensures.size (
      c.self.invariant.0,
      r.are,
      relabels_separated (free_list_of i.chunks.size i.granularity i.counter i.chunks.items) (non_zero_u64_get c.in-Some.id) (named c.args.name.now)
          (free_list_of i.chunks.size i.granularity i.counter c.rename.new.self.items) c.self.invariant.2 r.relabels,
      c.self.invariant.3,
      held ∙ sym b,
    )

pub returns-clause-renamed : goal.returns-clause-renamed
returns-clause-renamed c =
    let i = c.self.inside in
    let new = free_list_of i.chunks.size i.granularity i.counter c.rename.new.self.items in
    rw c.rename.ensures.size (subst (λ o. IsSomeAnd o (λ n. Renames c.args.self.now.block (non_zero_u64_get n) c.args.name.now new)) (sym c.in-Some.is)
    (subst (λ b. Renames b (non_zero_u64_get c.in-Some.id) c.args.name.now new) (ap (λ (v : Counted). v.block) c.self.view_is) (the_rename c).relabels))

pub returns-clause-sound : goal.returns-clause-sound
returns-clause-sound c =
    let at = (goal.at.returns-clause-sound c).After-rename in
    rw c.rename.ensures.size (sound_block c.rename.new.self.items c.self.inside.chunks.size c.self.inside.granularity c.self.inside.counter (the_rename at).are)

pub returns-clause-separated : goal.returns-clause-separated
returns-clause-separated c =
    let at = (goal.at.returns-clause-separated c).After-rename in
    let i = c.self.inside in
    relabels_separated (free_list_of i.chunks.size i.granularity i.counter i.chunks.items) (non_zero_u64_get c.in-Some.id) (named c.args.name.now)
    (free_list_of i.chunks.size i.granularity i.counter c.rename.new.self.items) c.self.invariant.2 (the_rename at).relabels

-- ---- the refusals

pub returns-in_default-piece-clause-cause : goal.returns-in_default-piece-clause-cause
returns-in_default-piece-clause-cause c =
    let i = c.self.inside in
    let n = non_zero_u64_get c.in-Some.id in
    let is_gap = list_any (λ (x : Chunk). is_gap_by x.kind c.get-in_default-piece.result x) i.chunks.items in
    rename_none c.args.self.now.block c.args.chunk_id c.in-Some.id _ is_gap c.in-Some.is
    (none_in_view i.chunks.size i.granularity i.counter i.chunks.items i.chunks.items c.args.self.now.block n c.get.result (ap (λ (v : Counted). v.block) c.self.view_is) refl c.get.ensures.value c.in_default-piece.ensures.piece)
    (gap_told i.chunks.size i.granularity i.counter i.chunks.items i.chunks.items c.args.self.now.block n c.get-in_default-piece.result is_gap (ap (λ (v : Counted). v.block) c.self.view_is) refl
    c.get-in_default-piece.ensures.value refl)
    c.no_piece.ensures.value

pub returns-in_err-new_name-clause-cause : goal.returns-in_err-new_name-clause-cause
returns-in_err-new_name-clause-cause c =
    let i = c.self.inside in
    let n = non_zero_u64_get c.in-Some.id in
    let e = c.in-Some-piece.ensures.piece in
    let h = subst (λ k. HoldsChunkId i.chunks.items k (length e.1.front)) c.get.ensures.value (held_at i.chunks.items (chunk_of c.in-Some-piece.piece) c.get.result e.0 e.1) in
    rename_host c.from_residual.result c.args.self.now.block c.args.chunk_id c.from_residual.ensures.1
    (rename_live c.args.self.now.block c.args.chunk_id c.in-Some.id host_out_of_memory c.in-Some.is
    (live_in_view i.chunks.size i.granularity i.counter i.chunks.items c.args.self.now.block n (length e.1.front) (ap (λ (v : Counted). v.block) c.self.view_is) h) refl)

pub returns-clause-covered : goal.returns-clause-covered
returns-clause-covered c =
    let at = (goal.at.returns-clause-covered c).After-rename in
    let i = c.self.inside in
    rw c.rename.ensures.size (sound_covered (free_list_of i.chunks.size i.granularity i.counter c.rename.new.self.items)
    (sound_block c.rename.new.self.items i.chunks.size i.granularity i.counter (the_rename at).are))

pub rename-requires : goal.rename-requires
rename-requires c =
    let e = c.in-Some-piece.ensures.piece in
    record {
      piece = record {
        chunk = chunk_of c.in-Some-piece.piece;
        at = subst (λ n. StandsAt c.self.inside.chunks.items n (chunk_of c.in-Some-piece.piece)) (c.get.ensures.value ∙ sym c.get-2.ensures.value)
            e.1;
        live = e.0;
        offset_is = refl;
        kind_is = refl;
        word_is = refl;
      };
    }

pub returns-clause-ordered : goal.returns-clause-ordered
returns-clause-ordered c =
    let at = (goal.at.returns-clause-ordered c).After-rename in
    rw c.rename.ensures.size (ordered_block c.rename.new.self.items c.self.inside.chunks.size c.self.inside.granularity c.self.inside.counter (the_rename at).are)

-- ---- what it looks up

gap_told_by : (c : After-no_piece) → LooksUpTo 2 c.args.self.now.cost (counts_of c.no_piece.new.cost)
gap_told_by c =
    let i = c.self.inside in
    looked_up 2 2 2 i.cost c.no_piece.new.cost c.args.self.now.cost (ap (λ (v : Counted). v.cost) c.self.view_is) (omega arith)
    (both 1 1 1 1 i.cost c.piece.new.cost c.no_piece.new.cost (just 1 i.cost c.piece.new.cost c.in_default-piece.ensures.counted)
    (just 1 c.piece.new.cost c.no_piece.new.cost c.no_piece.ensures.counted))

piece_told_by : (c : In-Some-piece) → LooksUpTo 2 c.args.self.now.cost (counts_of c.piece.new.cost)
piece_told_by c =
    let i = c.self.inside in
    looked_up 1 1 2 i.cost c.piece.new.cost c.args.self.now.cost (ap (λ (v : Counted). v.cost) c.self.view_is) (omega arith) (just 1 i.cost c.piece.new.cost c.in-Some-piece.ensures.counted)

named_by : (c : After-rename) → LooksUpTo 2 c.args.self.now.cost (counts_of c.rename.new.cost)
named_by c =
    let i = c.self.inside in
    looked_up 2 2 2 i.cost c.rename.new.cost c.args.self.now.cost (ap (λ (v : Counted). v.cost) c.self.view_is) (omega arith)
    (both 1 1 1 1 i.cost c.piece.new.cost c.rename.new.cost (just 1 i.cost c.piece.new.cost c.in-Some-piece.ensures.counted)
    (just 1 c.piece.new.cost c.rename.new.cost c.rename.ensures.counted))

pub returns-in_default-piece-clause-lookups : goal.returns-in_default-piece-clause-lookups
returns-in_default-piece-clause-lookups c = gap_told_by ((goal.at.returns-in_default-piece-clause-lookups c).After-no_piece)

pub returns-in_default-piece-clause-cost : goal.returns-in_default-piece-clause-cost
returns-in_default-piece-clause-cost c = rises 2 _ _ (gap_told_by ((goal.at.returns-in_default-piece-clause-cost c).After-no_piece))

pub returns-in_err-new_name-clause-lookups : goal.returns-in_err-new_name-clause-lookups
returns-in_err-new_name-clause-lookups c = piece_told_by ((goal.at.returns-in_err-new_name-clause-lookups c).In-Some-piece)

pub returns-in_err-new_name-clause-cost : goal.returns-in_err-new_name-clause-cost
returns-in_err-new_name-clause-cost c = rises 2 _ _ (piece_told_by ((goal.at.returns-in_err-new_name-clause-cost c).In-Some-piece))

pub returns-clause-lookups : goal.returns-clause-lookups
returns-clause-lookups c = named_by ((goal.at.returns-clause-lookups c).After-rename)

pub returns-clause-cost : goal.returns-clause-cost
returns-clause-cost c = rises 2 _ _ (named_by ((goal.at.returns-clause-cost c).After-rename))
