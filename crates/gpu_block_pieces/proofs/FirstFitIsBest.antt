-- The first gap of the index that fits is the best chunk of the list.
use Rattle.std.proofs.Common.{◌≡◌, ℕ, suc, ◌+◌, ◌<◌, ◌≤◌, ◌⊎◌, List, [], ◌∷◌, ◌++◌, length, get_or, refl, sym, ap, ◌∙◌, subst, inl, inr, ⊎_elim, arith, Option, Some, None, MatchOption}
use Rattle.std.specs.Prelude.{Contains}
use Rattle.std.specs.List.{AllPairs}
use Rattle.std.proofs.lemmas.List.{get_or_default, length-append}
use Rattle.std.proofs.lemmas.Bool.{cases_lt}
use Rattle.gpu_block_chunks.specs.declared.chunk.Chunk.{Chunk}
use Rattle.gpu_block_gaps.specs.declared.index.Gap.{Gap}
use Rattle.gpu_block_pieces.specs.declared.place.Wanted.{Wanted}
use Rattle.gpu_block_pieces.specs.declared.search.Found.{Found}
use Rattle.gpu_values.specs.declared.allocation_type.AllocationType.TheVariants.{Free}
use Rattle.gpu_block_chunks.specs.ChunkList.{Covers}
use Rattle.gpu_block_pieces.specs.Chunks.{last_kind, first_kind, size_at, FitsAt, FoundAt, NoneFits}
use Rattle.gpu_block_gaps.specs.Index.{Before}
use Rattle.gpu_block_pieces.specs.Indexed.{gap_between, kind_or, gaps_between, HasSame, IsGapOf, FitsGap, NoGapFits, IsFirstFit, IsChosen}
use Rattle.gpu_block_pieces.proofs.Tiling.{around, size_at-split}
use Rattle.gpu_block_pieces.proofs.Views.{order_of, earlier, same, later}
use Rattle.gpu_block_pieces.proofs.Indexing.{gap_of_member, member_at, same_member, same_back}

kinds_same : (xs : List Chunk) → first_kind xs ≡ kind_or xs Free
kinds_same [] = refl
kinds_same (x ∷ xs) = refl

chunk_some : (front back : List Chunk) (c : Chunk) (from to : ℕ) → Covers (front ++ c ∷ back) from to → 0 < c.size
chunk_some front back c from to h = (around front c back from to h).nonempty

-- a chunk that fits, as its entry in the index
record Entry (gs : List Gap) (w : Wanted) (c : Chunk) (o : ℕ) : Type 0 where
  place : ℕ
  within : place < length gs
  size : (get_or gs place (gap_between Free c Free)).length ≡ c.size
  start : (get_or gs place (gap_between Free c Free)).start ≡ c.start
  fits : FitsGap w (get_or gs place (gap_between Free c Free)) o

module _ (cs : List Chunk) (gs : List Gap) (w : Wanted) (size : ℕ) (covers : Covers cs 0 size) (same_gaps : HasSame gs (gaps_between Free cs Free)) where
  entry_of : (k o : ℕ) → (f : FitsAt cs w k o) → Entry gs w f.chunk o
  entry_of k o f =
      let g = gap_between (last_kind Free f.front) f.chunk (kind_or f.back Free) in
      let m = same_member (gaps_between Free cs Free) gs g (same_back gs (gaps_between Free cs Free) same_gaps) (member_at cs f.front f.back f.chunk f.split f.free) in
      let e : get_or gs m.0 (gap_between Free f.chunk Free) ≡ g = get_or_default gs m.0 (gap_between Free f.chunk Free) g m.1 ∙ m.2 in
      let fits : FitsGap w g o = rw (← kinds_same f.back) f.between in
      record {
        place = m.0;
        within = m.1;
        size = ap (λ (x : Gap). x.length) e;
        start = ap (λ (x : Gap). x.start) e;
        fits = subst (λ (x : Gap). FitsGap w x o) (sym e) fits;
      }

  pub none_fits : NoGapFits gs w → NoneFits cs w (length cs)
  none_fits none = λ k o lt f. let e = entry_of k o f in none e.place o (gap_between Free f.chunk Free) e.within e.fits

  module _ (ordered : AllPairs Before gs) (f : Found) (place : ℕ) (first : IsFirstFit gs w f place) where
    pub held : Contains gs f.gap
    held = (place, first.within, first.is f.gap)

    pub the_gap : IsGapOf cs f.gap
    the_gap = gap_of_member cs f.gap (same_member gs (gaps_between Free cs Free) f.gap same_gaps held)

    abbrev at : FoundAt
    at = record { index = length the_gap.front; offset = f.offset; size = f.gap.length }

    pub the_fit : FitsAt cs w (length the_gap.front) f.offset
    the_fit =
        let fits : FitsGap w (gap_between (last_kind Free the_gap.front) the_gap.chunk (kind_or the_gap.back Free)) f.offset = subst (λ (x : Gap). FitsGap w x f.offset) the_gap.is first.fits in
        record { front = the_gap.front; chunk = the_gap.chunk; back = the_gap.back; split = the_gap.split; index = refl; free = the_gap.free; between = rw (kinds_same the_gap.back) fits }

    -- no other is before it
    lowest : (k o : ℕ) → FitsAt cs w k o → (f.gap.length < size_at cs k) ⊎ ((f.gap.length ≡ size_at cs k) × (length the_gap.front ≤ k))
    lowest k o q =
        let e = entry_of k o q in
        let d = gap_between Free q.chunk Free in
        let x = get_or gs e.place d in
        let is = first.is d in
        let z : size_at cs k ≡ q.chunk.size = ap (size_at cs) (sym q.index) ∙ (ap (λ ys. size_at ys (length q.front)) q.split ∙ size_at-split q.front q.chunk q.back) in
        let gs1 : f.gap.start ≡ the_gap.chunk.start = ap (λ (y : Gap). y.start) the_gap.is in
        let n = q.index in
        let es = e.size in
        let et = e.start in
        let low : f.gap.start ≤ q.chunk.start → length the_gap.front ≤ k = λ le. elim
        (order_of the_gap.front the_gap.back q.front q.back the_gap.chunk q.chunk 0 size (sym the_gap.split ∙ q.split) (subst (λ (ys : List Chunk). Covers ys 0 size) the_gap.split covers)) [
          | earlier l h ↦ (let pos = chunk_some q.front q.back q.chunk 0 size (subst (λ (ys : List Chunk). Covers ys 0 size) q.split covers) in absurd (omega arith))
          | same u v ↦ (let l = ap (λ (ys : List Chunk). length ys) u in omega arith)
          | later l h ↦ omega arith
        ] in
        ⊎_elim
        (λ (lt : e.place < place). absurd (first.earlier e.place o d lt e.fits))
        (λ (ge : place ≤ e.place). ⊎_elim
        (λ (lt : place < e.place). ⊎_elim
        (λ (shorter : (get_or gs place d).length < x.length). inl (let a = ap (λ (y : Gap). y.length) is in omega arith))
        (λ (equal : ((get_or gs place d).length ≡ x.length) × ((get_or gs place d).start < x.start)).
        let a = ap (λ (y : Gap). y.length) is in
        let b = ap (λ (y : Gap). y.start) is in
        let c = equal.0 in let s = equal.1 in
        inr (omega arith, low (omega arith)))
        (ordered place e.place d lt e.within))
        (λ (le : e.place ≤ place).
        let p : e.place ≡ place = omega arith in
        let y : x ≡ f.gap = ap (λ (i : ℕ). get_or gs i d) p ∙ is in
        let a = ap (λ (y : Gap). y.length) y in
        let b = ap (λ (y : Gap). y.start) y in
        inr (omega arith, low (omega arith)))
        (cases_lt place e.place))
        (cases_lt e.place place)

    pub chosen : IsChosen cs w f
    unfolding the_fit the_gap
    chosen =
        let len : length cs ≡ length the_gap.front + suc (length the_gap.back) = ap length the_gap.split ∙ length-append the_gap.front (the_gap.chunk ∷ the_gap.back) in
        let z : size_at cs (length the_gap.front) ≡ the_gap.chunk.size = ap (λ ys. size_at ys (length the_gap.front)) the_gap.split ∙ size_at-split the_gap.front the_gap.chunk the_gap.back in
        record {
          index = length the_gap.front;
          best = record {
            below = omega arith;
            size = ap (λ (y : Gap). y.length) the_gap.is ∙ sym z;
            fits = the_fit;
            best = λ k o lt q. lowest k o q;
          };
          gap = the_gap.is;
        }

  -- what the search answers, said of the chunks
  pub found_chosen : (T : Type 0) (U : Found → ℕ → Type 0) (o : Option Found) → AllPairs Before gs → MatchOption o (NoGapFits gs w × T) (λ f. (place : ℕ) × IsFirstFit gs w f place × U f place)
      → MatchOption o (NoneFits cs w (length cs)) (λ f. IsChosen cs w f)
  found_chosen T U None ordered h = none_fits h.0
  found_chosen T U (Some f) ordered h = chosen ordered f h.0 h.1
