-- The lists of a block stand in order of start, and its gaps are those of the numbers.
use Rattle.std.proofs.Common.{◌≡◌, ℕ, ◌+◌, ◌<◌, ◌≤◌, List, [], ◌∷◌, ◌++◌, length, refl, sym, ap, ◌∙◌, subst, inl, inr, arith}
use Rattle.std.specs.Prelude.{Contains, ◌≢◌}
use Rattle.std.specs.List.{AllPairs}
use Rattle.std.proofs.lemmas.List.Elements.{All-nil, All-cons, All-weaker}
use Rattle.std.proofs.lemmas.List.Kept.{AllPairs-cons}
use Rattle.gpu_block_chunks.specs.declared.chunk.Chunk.{Chunk}
use Rattle.gpu_block_chunks.specs.ChunkList.{IsFree, Covers}
use Rattle.gpu_block_chunks.specs.Chain.{IsFresh}
use Rattle.gpu_block_chunks.specs.Label.{no_label}
use Rattle.gpu_block_gaps.specs.declared.index.Gap.{Gap}
use Rattle.gpu_values.specs.declared.allocation_type.AllocationType.{AllocationType}
use Rattle.gpu_values.specs.declared.allocation_type.AllocationType.TheVariants.{Free, Linear}
use Rattle.gpu_block_pieces.specs.FreeList.{Extent, IsGap}
use Rattle.gpu_block_pieces.specs.Laws.{IsInOrder}
use Rattle.gpu_block_pieces.specs.Chunks.{IsChunk, AreChunks, extent, extents_of, gaps_of, free_list_of}
use Rattle.gpu_block_pieces.specs.Indexed.{gap_between, kind_or, gaps_between}
use Rattle.gpu_block_pieces.proofs.Views.{free_or_live, extents-free, extents-live, gaps-free, gaps-live, gaps-append, contains_mid}
use Rattle.gpu_block_pieces.proofs.Takings.{StartsIn, GapIn, extents_in, gaps_in}
use Rattle.gpu_block_pieces.proofs.GapStarts.{chunk_of_gap, gap_of_chunk}
use Rattle.gpu_block_pieces.proofs.Sound.{gap_member}
use Rattle.gpu_block_pieces.proofs.Indexing.{first_free, first_live, few_gaps}

abbrev Lower : Extent → Extent → Type 0
Lower x y = x.end ≤ y.start

abbrev Earlier : ℕ × ℕ → ℕ × ℕ → Type 0
Earlier g h = g.0 < h.0

extents_ordered : (cs : List Chunk) (from to : ℕ) → Covers cs from to → AllPairs Lower (extents_of cs)
extents_ordered [] from to h = λ i j d lt within. absurd (omega arith)
extents_ordered (c ∷ cs) from to h =
    let rest = extents_ordered cs (from + c.size) to h.2 in
    let s : c.start ≡ from = h.0 in
    let above = All-weaker (StartsIn (from + c.size) to) (Lower (extent c)) (λ x q. let a = q.0 in omega arith) (extents_of cs) (extents_in cs (from + c.size) to h.2) in
    elim (free_or_live c.kind) [
      | inl f ↦ subst (λ (xs : List Extent). AllPairs Lower xs) (sym (extents-free c cs f)) rest
      | inr l ↦ subst (λ (xs : List Extent). AllPairs Lower xs) (sym (extents-live c cs l)) (AllPairs-cons Lower (extent c) (extents_of cs) above rest)
    ]

gaps_ordered : (cs : List Chunk) (from to : ℕ) → Covers cs from to → AllPairs Earlier (gaps_of cs)
gaps_ordered [] from to h = λ i j d lt within. absurd (omega arith)
gaps_ordered (c ∷ cs) from to h =
    let rest = gaps_ordered cs (from + c.size) to h.2 in
    let s : c.start ≡ from = h.0 in
    let pos : 0 < c.size = h.1 in
    let above = All-weaker (GapIn (from + c.size) to) (Earlier (c.start, c.chunk_id)) (λ x q. let a = q.0 in omega arith) (gaps_of cs) (gaps_in cs (from + c.size) to h.2) in
    elim (free_or_live c.kind) [
      | inl f ↦ subst (λ (xs : List (ℕ × ℕ)). AllPairs Earlier xs) (sym (gaps-free c cs f)) (AllPairs-cons Earlier (c.start, c.chunk_id) (gaps_of cs) above rest)
      | inr l ↦ subst (λ (xs : List (ℕ × ℕ)). AllPairs Earlier xs) (sym (gaps-live c cs l)) rest
    ]

contains_gap : (cs front back : List Chunk) (c : Chunk) → cs ≡ front ++ c ∷ back → IsFree c.kind → Contains (gaps_of cs) (c.start, c.chunk_id)
contains_gap cs front back c p free =
    subst (λ (gs : List (ℕ × ℕ)). Contains gs (c.start, c.chunk_id)) (sym (ap gaps_of p ∙ (gaps-append front (c ∷ back) ∙ ap (λ gs. gaps_of front ++ gs) (gaps-free c back free))))
    (contains_mid (gaps_of front) (gaps_of back) (c.start, c.chunk_id))

-- each free chunk is one gap of the index
gaps_counted : (b : AllocationType) (cs : List Chunk) (a : AllocationType) → length (gaps_between b cs a) ≡ length (gaps_of cs)
gaps_counted b [] a = refl
gaps_counted b (c ∷ cs) a =
    let r = gaps_counted c.kind cs a in
    let g = gap_between b c (kind_or cs a) in
    elim (free_or_live c.kind) [
      | inl f ↦
          let x = ap (λ (gs : List Gap). length gs) (first_free c.kind g (gaps_between c.kind cs a) f) in
          let y = ap (λ (gs : List (ℕ × ℕ)). length gs) (gaps-free c cs f) in
          omega arith
      | inr l ↦
          let x = ap (λ (gs : List Gap). length gs) (first_live c.kind g (gaps_between c.kind cs a) l) in
          let y = ap (λ (gs : List (ℕ × ℕ)). length gs) (gaps-live c cs l) in
          omega arith
    ]

pub ordered_block : (cs : List Chunk) (size g counter : ℕ) → AreChunks cs size counter → IsInOrder (free_list_of size g counter cs)
unfolding IsInOrder
ordered_block cs size g counter are = record {
  extents = extents_ordered cs 0 size are.covers;
  gaps = gaps_ordered cs 0 size are.covers;
  each_gap = λ s e gap.
      let f = chunk_of_gap cs size g counter s e are.covers are.none_touch gap in
      (f.chunk.chunk_id, subst (λ (n : ℕ). Contains (gaps_of cs) (n, f.chunk.chunk_id)) f.starts (contains_gap cs f.front f.back f.chunk f.split f.free));
  only_gaps = λ s k has.
      let m = gap_member cs (s, k) has in (
        m.chunk.start + m.chunk.size,
        subst (λ (n : ℕ). IsGap (free_list_of size g counter cs) n (m.chunk.start + m.chunk.size)) (sym m.start)
            (gap_of_chunk cs size g counter m.front m.back m.chunk m.split are.covers are.none_touch m.free),
      );
  count = (let n = gaps_counted Free cs Free in let f = few_gaps Free Linear cs Free are.none_touch in omega arith);
}

-- those of a block that is one gap
pub fresh_are : (cs : List Chunk) (size counter : ℕ) → 0 < size → 2 ≤ counter → IsFresh cs size → AreChunks cs size counter
fresh_are cs size counter some two fresh =
    let c : Chunk = record { start = 0; size = size; offset = 0; kind = Free; chunk_id = 1; label = no_label } in
    let is : IsChunk counter c = record { after = omega arith; before = omega arith; positive = omega arith; given = omega arith } in
    subst (λ (xs : List Chunk). AreChunks xs size counter) (sym fresh) (record {
      covers = (refl, some, omega arith);
      none_touch = (tt, tt);
      each = All-cons (IsChunk counter) c [] is (All-nil (IsChunk counter));
      distinct = (All-nil (λ (d : Chunk). d.chunk_id ≢ 1), tt);
    })

pub fresh_ordered : (cs : List Chunk) (size n g counter : ℕ) → 0 < size → 2 ≤ counter → n ≡ size → IsFresh cs size → IsInOrder (free_list_of n g counter cs)
fresh_ordered cs size n g counter some two e fresh =
    subst (λ (m : ℕ). IsInOrder (free_list_of m g counter cs)) (sym e) (ordered_block cs size g counter (fresh_are cs size counter some two fresh))
