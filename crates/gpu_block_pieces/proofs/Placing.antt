-- A take by the allocator, from what the search and the edit say.
use Rattle.std.proofs.Common.{◌≡◌, ◌≢◌, ℕ, ◌+◌, ◌-◌, ◌^◌, ◌<◌, ◌≤◌, List, ◌∷◌, ◌++◌, length, refl, sym, ap, ◌∙◌, subst, inl, inr, arith, Bool, true, false}
use Rattle.std.specs.Prelude.{Contains, Result, Ok, Err, IfErr, IsErrAnd}
use Rattle.gpu_block_chunks.specs.declared.chunk.Chunk.{Chunk}
use Rattle.gpu_block_pieces.specs.declared.place.Wanted.{Wanted}
use Rattle.gpu_block_pieces.specs.Chunks.{FoundAt}
use Rattle.gpu_values.specs.declared.allocation_type.AllocationType.{AllocationType}
use Rattle.gpu_values.specs.declared.allocation_type.AllocationType.TheVariants.{Free, Linear, NonLinear}
use Rattle.gpu_block_pieces.specs.FreeList.{Extent, FreeList}
use Rattle.gpu_block_pieces.specs.Request.{Request}
use Rattle.gpu_block_pieces.specs.Changes.{Takes, with_extent, moved_gap, without_gap}
use Rattle.gpu_block_pieces.specs.Place.{IsBestFit, RequestFits, HasNoPlace}
use Rattle.gpu_block_pieces.specs.Request.{request}
use Rattle.std.proofs.lemmas.Bool.{cases_lt, false≢true}
use Rattle.gpu_block_chunks.specs.ChunkList.{IsFree, filled_chunk}
use Rattle.gpu_block_pieces.specs.Chunks.{AreChunks, IsChunk, free_list_of, extents_of, gaps_of, piece_of, IsBestOf, NoneFits, TakenFrom, IsTaken, IsLaidOut}
use Rattle.gpu_block_pieces.proofs.Takings.{rest_are, rest_extents, rest_gaps, whole_are, whole_extents, whole_gaps, whole_number, each_of}
use Rattle.gpu_block_pieces.proofs.FoundIsBestFit.{chosen_of_best, none_of_chunks}
use Rattle.gpu_block_pieces.proofs.OneOutcome.{best_has_place}
use Rattle.gpu_block_pieces.specs.BlockRefusal.{IsAllocateRefusal}
use Rattle.gpu_values.specs.declared.error.AllocationError.{AllocationError}
use Rattle.gpu_values.specs.declared.error.AllocationError.TheVariants.{HostOutOfMemory}
use Rattle.gpu_block_chunks.specs.declared.label.Label.{Label}
use Rattle.gpu_block_chunks.specs.Label.{plain_label}

piece_live : (k : AllocationType) → k ≢ Free → IsFree k → ⊥
piece_live Free ne f = ne refl
piece_live Linear ne f = f
piece_live NonLinear ne f = f

pub are_at : (cs ds : List Chunk) (size counter : ℕ) → cs ≡ ds → AreChunks cs size counter → AreChunks ds size counter
are_at cs ds size counter e h = subst (λ (xs : List Chunk). AreChunks xs size counter) e h

pub laid_out : (cs : List Chunk) (size counter : ℕ) → size < 2 ^ 64 → AreChunks cs size counter → IsLaidOut cs
laid_out cs size counter lt h = (size, lt, h.covers)

module _ (cs new : List Chunk) (size counter : ℕ) (w : Wanted) (f : FoundAt) (label : Label) (chunk_id : ℕ) (are : AreChunks cs size counter) (pos : 0 < w.size) (piece : w.kind ≢ Free)
    (best : IsBestOf cs w (length cs) f) (taken : IsTaken cs f w counter label chunk_id new) where
  the_taken : TakenFrom best.fits.front best.fits.chunk best.fits.back f w counter label chunk_id new
  the_taken = taken best.fits.front best.fits.chunk best.fits.back best.fits.split best.fits.index

  parts : AreChunks (best.fits.front ++ best.fits.chunk ∷ best.fits.back) size counter
  parts = are_at cs (best.fits.front ++ best.fits.chunk ∷ best.fits.back) size counter best.fits.split are

  low : best.fits.chunk.start ≤ f.offset
  low = best.fits.between.begins.begins.after

  high : f.offset + w.size ≤ best.fits.chunk.start + best.fits.chunk.size
  high = best.fits.between.inside

  counted : 0 < counter
  counted = let g = (each_of counter best.fits.front best.fits.chunk best.fits.back parts.each).at.given in omega arith

  -- the extent that the piece shows
  abbrev pub shown : Label → ℕ → ℕ → Extent
  shown l end n = record { start = best.fits.chunk.start; offset = f.offset; end = end; kind = w.kind; chunk_id = n; name = l.name; word = l.word }

  abbrev rest_piece : Chunk
  rest_piece = piece_of best.fits.chunk f w counter label

  abbrev whole_piece : Chunk
  whole_piece = filled_chunk best.fits.chunk f.offset w.kind label

  pub some_number : 0 < chunk_id
  some_number =
      let g = (each_of counter best.fits.front best.fits.chunk best.fits.back parts.each).at.positive in
      let n = counted in
      elim (cases_lt (f.offset + w.size) (best.fits.chunk.start + best.fits.chunk.size)) [
        | inl lt ↦ (let e = (the_taken.rest lt).0 in omega arith)
        | inr ge ↦ (let e = (the_taken.whole ge).0 in omega arith)
      ]

  module _ (rest : f.offset + w.size < best.fits.chunk.start + best.fits.chunk.size) where
    rest_chunk : IsChunk (counter + 1) rest_piece
    rest_chunk = let l = low in let n = counted in record { after = l; before = omega arith; positive = n; given = omega arith }

    pub rest_taken_are : AreChunks new size (counter + 1)
    rest_taken_are =
        let l = low in let h = high in
        are_at _ new size (counter + 1) (sym (the_taken.rest rest).1)
        (rest_are size counter best.fits.front best.fits.back best.fits.chunk rest_piece parts best.fits.free (piece_live w.kind piece) refl (omega arith) (omega arith) rest_chunk refl)

    pub rest_takes : (text : List ℕ) → label ≡ plain_label text → counter < 2 ^ 64 - 1 → Takes (free_list_of size w.granularity counter cs) (request w.size w.alignment w.kind text) f.offset chunk_id
        (free_list_of size w.granularity (counter + 1) new)
    rest_takes text e left =
        let l = low in let h = high in
        let t = the_taken.rest rest in
        let fs = best.fits in
        let end : fs.chunk.start + (f.offset + w.size - fs.chunk.start) ≡ f.offset + w.size = omega arith in
        let xs = rest_extents size counter fs.front fs.back fs.chunk rest_piece parts fs.free (piece_live w.kind piece) refl (omega arith) (omega arith) rest_chunk refl in
        let gs = rest_gaps size counter fs.front fs.back fs.chunk rest_piece parts fs.free (piece_live w.kind piece) refl (omega arith) (omega arith) rest_chunk refl in
        record {
          start = fs.chunk.start;
          end = fs.chunk.start + fs.chunk.size;
          chosen = chosen_of_best cs size counter w text are.covers are.none_touch piece f best;
          extent = ap extents_of t.1 ∙ (xs ∙ (ap (λ ys. with_extent (shown label (fs.chunk.start + (f.offset + w.size - fs.chunk.start)) counter) (extents_of ys)) (sym fs.split)
              ∙ (ap (λ k. with_extent (shown label k counter) (extents_of cs)) end ∙
              (ap (λ k. with_extent (shown k (f.offset + w.size) counter) (extents_of cs)) e ∙ ap (λ k. with_extent (shown (plain_label text) (f.offset + w.size) k) (extents_of cs)) (sym t.0)))));
          rest = λ _. (
            t.0,
            refl,
            ap gaps_of t.1 ∙ (gs ∙
                (ap (λ k. moved_gap fs.chunk.start k (gaps_of (fs.front ++ fs.chunk ∷ fs.back))) end ∙ ap (λ ys. moved_gap fs.chunk.start (f.offset + w.size) (gaps_of ys)) (sym fs.split))),
            left,
          );
          no_rest = λ q. absurd (omega arith);
          same = (refl, refl);
        }

  module _ (whole : best.fits.chunk.start + best.fits.chunk.size ≤ f.offset + w.size) where
    whole_chunk : IsChunk counter whole_piece
    whole_chunk =
        let l = low in let h = high in
        let g = (each_of counter best.fits.front best.fits.chunk best.fits.back parts.each).at in
        record { after = l; before = omega arith; positive = g.positive; given = g.given }

    pub whole_taken_are : AreChunks new size counter
    whole_taken_are =
        are_at _ new size counter (sym (the_taken.whole whole).1)
        (whole_are size counter best.fits.front best.fits.back best.fits.chunk whole_piece parts best.fits.free (piece_live w.kind piece) refl refl whole_chunk refl)

    pub whole_takes : (text : List ℕ) → label ≡ plain_label text → Takes (free_list_of size w.granularity counter cs) (request w.size w.alignment w.kind text) f.offset chunk_id
        (free_list_of size w.granularity counter new)
    whole_takes text e =
        let l = low in let h = high in
        let t = the_taken.whole whole in
        let fs = best.fits in
        let end : fs.chunk.start + fs.chunk.size ≡ f.offset + w.size = omega arith in
        let xs = whole_extents size counter fs.front fs.back fs.chunk whole_piece parts fs.free (piece_live w.kind piece) refl refl whole_chunk refl in
        let gs = whole_gaps size counter fs.front fs.back fs.chunk whole_piece parts fs.free (piece_live w.kind piece) refl refl whole_chunk refl in
        let ns = whole_number size counter fs.front fs.back fs.chunk whole_piece parts fs.free (piece_live w.kind piece) refl refl whole_chunk refl in
        record {
          start = fs.chunk.start;
          end = fs.chunk.start + fs.chunk.size;
          chosen = chosen_of_best cs size counter w text are.covers are.none_touch piece f best;
          extent = ap extents_of t.1 ∙ (xs ∙ (ap (λ ys. with_extent (shown label (fs.chunk.start + fs.chunk.size) fs.chunk.chunk_id) (extents_of ys)) (sym fs.split)
              ∙ (ap (λ k. with_extent (shown label k fs.chunk.chunk_id) (extents_of cs)) end ∙
              (ap (λ k. with_extent (shown k (f.offset + w.size) fs.chunk.chunk_id) (extents_of cs)) e ∙ ap (λ k. with_extent (shown (plain_label text) (f.offset + w.size) k) (extents_of cs)) (sym t.0)))));
          rest = λ q. absurd (omega arith);
          no_rest = λ _. (
            subst (λ k. Contains (gaps_of cs) (fs.chunk.start, k)) (sym t.0) (subst (λ (ys : List Chunk). Contains (gaps_of ys) (fs.chunk.start, fs.chunk.chunk_id)) (sym fs.split) ns),
            refl,
            ap gaps_of t.1 ∙ (gs ∙ ap (λ ys. without_gap fs.chunk.start (gaps_of ys)) (sym fs.split)),
          );
          same = (refl, refl);
        }

-- ---- over the view

pub view_at : (size g counter : ℕ) (cs : List Chunk) (v : FreeList) → free_list_of size g counter cs ≡ v → (k : ℕ) → k ≡ v.granularity → free_list_of size k counter cs ≡ v
view_at size g counter cs v e k h = ap (λ y. free_list_of size y counter cs) (h ∙ sym (ap (λ b. b.granularity) e)) ∙ e

pub no_place_none : (cs : List Chunk) (size counter : ℕ) (w : Wanted) (v : FreeList) (text : List ℕ) → AreChunks cs size counter → w.kind ≢ Free → free_list_of size w.granularity counter cs ≡ v →
    NoneFits cs w (length cs) → HasNoPlace v (request w.size w.alignment w.kind text)
no_place_none cs size counter w v text are piece e none =
    inl (subst (λ b. (s e' o : ℕ) → RequestFits b (request w.size w.alignment w.kind text) s e' o → ⊥) e (none_of_chunks cs size counter w text are.covers are.none_touch piece none))

pub no_place_counter : (cs : List Chunk) (size counter : ℕ) (w : Wanted) (v : FreeList) (text : List ℕ) (f : FoundAt) → AreChunks cs size counter → w.kind ≢ Free → free_list_of size w.granularity
    counter cs ≡ v → (b : IsBestOf cs w (length cs) f) → f.offset + w.size < b.fits.chunk.start + b.fits.chunk.size → counter ≡ 2 ^ 64 - 1 → HasNoPlace v (request w.size w.alignment w.kind text)
no_place_counter cs size counter w v text f are piece e b rest last =
    inr (
      b.fits.chunk.start,
      b.fits.chunk.start + b.fits.chunk.size,
      f.offset,
      subst (λ x. IsBestFit x (request w.size w.alignment w.kind text) b.fits.chunk.start (b.fits.chunk.start + b.fits.chunk.size) f.offset) e
          (chosen_of_best cs size counter w text are.covers are.none_touch piece f b),
      rest,
      ap (λ x. x.counter) (sym e) ∙ last,
    )

pub Takes-at : (size g k counter after : ℕ) (cs new : List Chunk) (v : FreeList) (r : Request) (o n chunk_id : ℕ) → free_list_of size g counter cs ≡ v → k ≡ v.granularity → n ≡ chunk_id → Takes
    (free_list_of size k counter cs) r o chunk_id (free_list_of size k after new) → Takes v r o n (free_list_of size g after new)
Takes-at size g k counter after cs new v r o n chunk_id e h m t =
    let same : k ≡ g = h ∙ sym (ap (λ b. b.granularity) e) in
    let one : Takes v r o chunk_id (free_list_of size k after new) = subst (λ b. Takes b r o chunk_id (free_list_of size k after new)) (view_at size g counter cs v e k h) t in
    let two : Takes v r o n (free_list_of size k after new) = subst (λ i. Takes v r o i (free_list_of size k after new)) (sym m) one in
    subst (λ i. Takes v r o n (free_list_of size i after new)) same two

pub not_rest : (rest : Bool) (a b : ℕ) → rest ≡ false → (a < b → rest ≡ true) → b ≤ a
not_rest rest a b e h = elim (cases_lt a b) [ inl lt ↦ absurd (false≢true (sym e ∙ h lt)) | inr ge ↦ ge ]

pub has_place : (cs : List Chunk) (size counter : ℕ) (w : Wanted) (v : FreeList) (text : List ℕ) (f : FoundAt) → AreChunks cs size counter → w.kind ≢ Free → free_list_of size w.granularity counter cs
    ≡ v → (b : IsBestOf cs w (length cs) f) → (f.offset + w.size < b.fits.chunk.start + b.fits.chunk.size → counter < 2 ^ 64 - 1) → HasNoPlace v (request w.size w.alignment w.kind text) → ⊥
has_place cs size counter w v text f are piece e b left =
    best_has_place v (request w.size w.alignment w.kind text) b.fits.chunk.start (b.fits.chunk.start + b.fits.chunk.size) f.offset
    (subst (λ x. IsBestFit x (request w.size w.alignment w.kind text) b.fits.chunk.start (b.fits.chunk.start + b.fits.chunk.size) f.offset) e
    (chosen_of_best cs size counter w text are.covers are.none_touch piece f b))
    (λ lt. subst (λ (x : FreeList). x.counter < 2 ^ 64 - 1) e (left lt))

-- lack of host memory is the cause only where there is a place
pub host_refusal : {V : Type 0} (res : Result V AllocationError) (v : FreeList) (r : Request) → IsErrAnd res (λ e. e ≡ HostOutOfMemory) → (HasNoPlace v r → ⊥) → IfErr res (λ e. IsAllocateRefusal v r e)
host_refusal (Ok x) v r e h = tt
host_refusal (Err x) v r e h = subst (λ x. IsAllocateRefusal v r x) (sym e) h
