-- What a take leaves, said of the block.
use Rattle.std.proofs.Common.{◌≡◌, ◌≢◌, ℕ, ◌+◌, ◌<◌, ◌≤◌, List, [], ◌∷◌, ◌++◌, refl, sym, ap, ◌∙◌, subst, inl, inr, arith}
use Rattle.std.specs.Prelude.{All, Contains}
use Rattle.std.proofs.lemmas.List.Elements.{All-nil, All-cons, All-head, All-tail, All-weaker, All-append}
use Rattle.gpu_block_chunks.specs.declared.chunk.Chunk.{Chunk}
use Rattle.gpu_values.specs.declared.allocation_type.AllocationType.{AllocationType}
use Rattle.gpu_values.specs.declared.allocation_type.AllocationType.TheVariants.{Free, Linear, NonLinear}
use Rattle.gpu_block_pieces.specs.FreeList.{Extent}
use Rattle.gpu_block_pieces.specs.Changes.{with_extent, without_gap, moved_gap}
use Rattle.gpu_block_chunks.specs.ChunkList.{IsFree, Covers, cut_chunk}
use Rattle.gpu_block_pieces.specs.Chunks.{NotBothFree, NoneTouch, last_kind, AreChunks, IsChunk, extent, extents_of, gaps_of}
use Rattle.gpu_block_pieces.proofs.Tiling.{Neighbours, around, Covers-le}
use Rattle.gpu_block_pieces.proofs.Edits.{Covers-cut, Covers-like}
use Rattle.gpu_block_pieces.proofs.Views.{free_or_live, extents-free, extents-live, gaps-free, gaps-live, extents-append, gaps-append, extents-split, contains_mid}
use Rattle.gpu_block_pieces.proofs.Numbers.{distinct_cut, distinct_less, same_chunk_id, same_distinct}
use Rattle.gpu_block_chunks.proofs.Parts.{All-parts}
use Rattle.gpu_block_pieces.proofs.OrderedLists.{placed-mid, kept_mid, changed_mid}

-- ---- where the extents and the gaps of a run of chunks lie

abbrev pub StartsIn : ℕ → ℕ → Extent → Type 0
StartsIn from to x = (from ≤ x.start) × (x.start < to)

abbrev pub GapIn : ℕ → ℕ → ℕ × ℕ → Type 0
GapIn from to p = (from ≤ p.0) × (p.0 < to)

pub extents_in : (cs : List Chunk) (from to : ℕ) → Covers cs from to → All (StartsIn from to) (extents_of cs)
extents_in [] from to h = All-nil (StartsIn from to)
extents_in (c ∷ cs) from to h =
    let le = Covers-le cs (from + c.size) to h.2 in
    let s : c.start ≡ from = h.0 in
    let pos : 0 < c.size = h.1 in
    let rest = All-weaker (StartsIn (from + c.size) to) (StartsIn from to) (λ x q. (omega arith, q.1)) (extents_of cs) (extents_in cs (from + c.size) to h.2) in
    elim (free_or_live c.kind) [
      | inl f ↦ subst (λ (xs : List Extent). All (StartsIn from to) xs) (sym (extents-free c cs f)) rest
      | inr l ↦ subst (λ (xs : List Extent). All (StartsIn from to) xs) (sym (extents-live c cs l)) (All-cons (StartsIn from to) (extent c) (extents_of cs) (omega arith, omega arith) rest)
    ]

pub gaps_in : (cs : List Chunk) (from to : ℕ) → Covers cs from to → All (GapIn from to) (gaps_of cs)
gaps_in [] from to h = All-nil (GapIn from to)
gaps_in (c ∷ cs) from to h =
    let le = Covers-le cs (from + c.size) to h.2 in
    let s : c.start ≡ from = h.0 in
    let pos : 0 < c.size = h.1 in
    let rest = All-weaker (GapIn (from + c.size) to) (GapIn from to) (λ x q. (omega arith, q.1)) (gaps_of cs) (gaps_in cs (from + c.size) to h.2) in
    elim (free_or_live c.kind) [
      | inl f ↦ subst (λ (xs : List (ℕ × ℕ)). All (GapIn from to) xs) (sym (gaps-free c cs f)) (All-cons (GapIn from to) (c.start, c.chunk_id) (gaps_of cs) (omega arith, omega arith) rest)
      | inr l ↦ subst (λ (xs : List (ℕ × ℕ)). All (GapIn from to) xs) (sym (gaps-live c cs l)) rest
    ]

-- ---- the parts of the invariant around a chunk

pub record Touching (k : AllocationType) (front : List Chunk) (c : Chunk) (back : List Chunk) : Type 0 where
  pub before : NoneTouch k front
  pub at : NotBothFree (last_kind k front) c.kind
  pub after : NoneTouch c.kind back

pub touching : (k : AllocationType) (front : List Chunk) (c : Chunk) (back : List Chunk) → NoneTouch k (front ++ c ∷ back) → Touching k front c back
touching k [] c back h = record { before = tt; at = h.0; after = h.1 }
touching k (f ∷ front) c back h =
    let r = touching f.kind front c back h.1 in
    record { before = (h.0, r.before); at = r.at; after = r.after }

pub touch_join : (k : AllocationType) (front : List Chunk) (c : Chunk) (back : List Chunk) → Touching k front c back → NoneTouch k (front ++ c ∷ back)
touch_join k [] c back t = (t.at, t.after)
touch_join k (f ∷ front) c back t = (t.before.0, touch_join f.kind front c back (record { before = t.before.1; at = t.at; after = t.after }))

pub live_after : (k l : AllocationType) → (IsFree l → ⊥) → NotBothFree k l
live_after Free Free live = live tt
live_after Free Linear live = tt
live_after Free NonLinear live = tt
live_after Linear l live = tt
live_after NonLinear l live = tt

pub live_before : (k l : AllocationType) → (IsFree k → ⊥) → NotBothFree k l
live_before Free l live = absurd (live tt)
live_before Linear l live = tt
live_before NonLinear l live = tt

pub after_live : (k : AllocationType) (back : List Chunk) (l : AllocationType) → (IsFree k → ⊥) → NoneTouch l back → NoneTouch k back
after_live k [] l live h = tt
after_live k (b ∷ bs) l live h = (live_before k b.kind live, h.1)

pub record Each (counter : ℕ) (front : List Chunk) (c : Chunk) (back : List Chunk) : Type 0 where
  pub before : All (IsChunk counter) front
  pub at : IsChunk counter c
  pub after : All (IsChunk counter) back

pub each_of : (counter : ℕ) (front : List Chunk) (c : Chunk) (back : List Chunk) → All (IsChunk counter) (front ++ c ∷ back) → Each counter front c back
each_of counter front c back h =
    let r = All-parts (IsChunk counter) front (c ∷ back) h in
    record { before = r.0; at = All-head (IsChunk counter) c back r.1; after = All-tail (IsChunk counter) c back r.1 }

given_more : (counter : ℕ) (c : Chunk) → IsChunk counter c → IsChunk (counter + 1) c
given_more counter c h = let g = h.given in record { after = h.after; before = h.before; positive = h.positive; given = omega arith }

more_given : (counter : ℕ) (cs : List Chunk) → All (IsChunk counter) cs → All (IsChunk (counter + 1)) cs
more_given counter cs h = All-weaker (IsChunk counter) (IsChunk (counter + 1)) (given_more counter) cs h

-- ---- a take that leaves a rest

module _ (size counter : ℕ) (front back : List Chunk) (c piece : Chunk) (are : AreChunks (front ++ c ∷ back) size counter) (free : IsFree c.kind) (live : IsFree piece.kind → ⊥)
    (starts : piece.start ≡ c.start) where
  take_around : Neighbours front c back 0 size
  take_around = around front c back 0 size are.covers

  low_extents : (x : Extent) → x.start ≡ c.start → All (λ y. y.start < x.start) (extents_of front)
  low_extents x e = All-weaker (StartsIn 0 c.start) (λ y. y.start < x.start) (λ y q. (let l = q.1 in omega arith)) (extents_of front) (extents_in front 0 c.start take_around.before)

  high_extents : (x : Extent) → x.start ≡ c.start → All (λ y. x.start ≤ y.start) (extents_of back)
  high_extents x e = All-weaker (StartsIn (c.start + c.size) size) (λ y. x.start ≤ y.start) (λ y q. (let l = q.0 in omega arith)) (extents_of back)
      (extents_in back (c.start + c.size) size take_around.after)

  low_gaps : All (λ p. p.0 ≢ c.start) (gaps_of front)
  low_gaps = All-weaker (GapIn 0 c.start) (λ p. p.0 ≢ c.start) (λ p q. (let l = q.1 in λ e. absurd (omega arith))) (gaps_of front) (gaps_in front 0 c.start take_around.before)

  high_gaps : All (λ p. p.0 ≢ c.start) (gaps_of back)
  high_gaps =
      let pos = take_around.nonempty in
      All-weaker (GapIn (c.start + c.size) size) (λ p. p.0 ≢ c.start) (λ p q. (let l = q.0 in λ e. absurd (omega arith))) (gaps_of back) (gaps_in back (c.start + c.size) size take_around.after)

  pub old_gaps : gaps_of (front ++ c ∷ back) ≡ gaps_of front ++ (c.start, c.chunk_id) ∷ gaps_of back
  old_gaps = gaps-append front (c ∷ back) ∙ ap (λ ys. gaps_of front ++ ys) (gaps-free c back free)

  pub old_extents : extents_of (front ++ c ∷ back) ≡ extents_of front ++ extents_of back
  old_extents = extents-append front (c ∷ back) ∙ ap (λ ys. extents_of front ++ ys) (extents-free c back free)

  -- the piece among the extents, whatever stands for the free chunk behind it
  placed_extent : with_extent (extent piece) (extents_of (front ++ c ∷ back)) ≡ extents_of front ++ extent piece ∷ extents_of back
  placed_extent =
      ap (with_extent (extent piece)) old_extents ∙ placed-mid (λ y. y.start) (extent piece) (extents_of front) (extents_of back) (low_extents (extent piece) starts)
      (high_extents (extent piece) starts)

  module _ (pos : 0 < piece.size) (shorter : piece.size < c.size) (chunk : IsChunk (counter + 1) piece) (numbered : piece.chunk_id ≡ counter) where
    pub rest_are : AreChunks (front ++ piece ∷ cut_chunk c piece.size ∷ back) size (counter + 1)
    rest_are =
        let t = touching Linear front c back are.none_touch in
        let e = each_of counter front c back are.each in
        let at = e.at in
        let g = at.given in
        let cut : IsChunk (counter + 1) (cut_chunk c piece.size) = record { after = omega arith; before = omega arith; positive = at.positive; given = omega arith } in
        record {
          covers = Covers-cut front back c piece 0 size starts pos shorter are.covers;
          none_touch = touch_join Linear front piece (cut_chunk c piece.size ∷ back)
              (record { before = t.before; at = live_after (last_kind Linear front) piece.kind live; after = (live_before piece.kind c.kind live, t.after) });
          each = All-append (IsChunk (counter + 1)) front (piece ∷ cut_chunk c piece.size ∷ back) (more_given counter front e.before)
              (All-cons (IsChunk (counter + 1)) piece (cut_chunk c piece.size ∷ back) chunk (All-cons (IsChunk (counter + 1)) (cut_chunk c piece.size) back cut (more_given counter back e.after)));
          distinct = distinct_cut counter front back c piece numbered are.each are.distinct;
        }

    pub rest_extents : extents_of (front ++ piece ∷ cut_chunk c piece.size ∷ back) ≡ with_extent (extent piece) (extents_of (front ++ c ∷ back))
    rest_extents =
        extents-split front (cut_chunk c piece.size ∷ back) piece live ∙ (ap (λ ys. extents_of front ++ extent piece ∷ ys) (extents-free (cut_chunk c piece.size) back free) ∙ sym placed_extent)

    pub rest_gaps : gaps_of (front ++ piece ∷ cut_chunk c piece.size ∷ back) ≡ moved_gap c.start (c.start + piece.size) (gaps_of (front ++ c ∷ back))
    rest_gaps =
        let new : gaps_of (front ++ piece ∷ cut_chunk c piece.size ∷ back) ≡ gaps_of front ++ (c.start + piece.size, c.chunk_id) ∷ gaps_of back =
        gaps-append front (piece ∷ cut_chunk c piece.size ∷ back) ∙ ap (λ ys. gaps_of front ++ ys)
        (gaps-live piece (cut_chunk c piece.size ∷ back) live ∙ gaps-free (cut_chunk c piece.size) back free) in
        new ∙ sym (ap (moved_gap c.start (c.start + piece.size)) old_gaps ∙ changed_mid (λ p. p.0) c.start (λ p. (c.start + piece.size, p.1)) (c.start, c.chunk_id) (gaps_of front) (gaps_of back) refl
        low_gaps high_gaps)

  -- ---- a take of the whole chunk

  module _ (same_size : piece.size ≡ c.size) (chunk : IsChunk counter piece) (numbered : piece.chunk_id ≡ c.chunk_id) where
    pub whole_are : AreChunks (front ++ piece ∷ back) size counter
    whole_are =
        let t = touching Linear front c back are.none_touch in
        let e = each_of counter front c back are.each in
        record {
          covers = Covers-like front back c piece 0 size starts same_size are.covers;
          none_touch = touch_join Linear front piece back
              (record { before = t.before; at = live_after (last_kind Linear front) piece.kind live; after = after_live piece.kind back c.kind live t.after });
          each = All-append (IsChunk counter) front (piece ∷ back) e.before (All-cons (IsChunk counter) piece back chunk e.after);
          distinct = distinct_less front (c ∷ back) (piece ∷ back) (same_chunk_id c piece back numbered) (same_distinct c piece back numbered) are.distinct;
        }

    pub whole_extents : extents_of (front ++ piece ∷ back) ≡ with_extent (extent piece) (extents_of (front ++ c ∷ back))
    whole_extents = extents-split front back piece live ∙ sym placed_extent

    pub whole_gaps : gaps_of (front ++ piece ∷ back) ≡ without_gap c.start (gaps_of (front ++ c ∷ back))
    whole_gaps =
        let new : gaps_of (front ++ piece ∷ back) ≡ gaps_of front ++ gaps_of back = gaps-append front (piece ∷ back) ∙ ap (λ ys. gaps_of front ++ ys) (gaps-live piece back live) in
        new ∙ sym (ap (without_gap c.start) old_gaps ∙ kept_mid (λ p. p.0) c.start (c.start, c.chunk_id) (gaps_of front) (gaps_of back) refl low_gaps high_gaps)

    pub whole_number : Contains (gaps_of (front ++ c ∷ back)) (c.start, c.chunk_id)
    whole_number = subst (λ (xs : List (ℕ × ℕ)). Contains xs (c.start, c.chunk_id)) (sym old_gaps) (contains_mid (gaps_of front) (gaps_of back) (c.start, c.chunk_id))
