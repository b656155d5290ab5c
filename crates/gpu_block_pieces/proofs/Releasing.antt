-- What a release leaves, said of the block.
use Rattle.std.proofs.Common.{◌≡◌, ◌≢◌, ℕ, ◌+◌, ◌<◌, ◌≤◌, ◌⊎◌, List, [], ◌∷◌, ◌++◌, length, refl, sym, ap, ◌∙◌, subst, inl, inr, arith, eqb}
use Rattle.std.specs.Prelude.{All, not}
use Rattle.std.proofs.lemmas.List.{append_assoc, append-nil}
use Rattle.std.proofs.lemmas.List.Elements.{All-nil, All-cons, All-head, All-tail, All-weaker, All-append, All-contains, filter-append}
use Rattle.gpu_block_chunks.specs.declared.chunk.Chunk.{Chunk}
use Rattle.gpu_values.specs.declared.allocation_type.AllocationType.{AllocationType}
use Rattle.gpu_values.specs.declared.allocation_type.AllocationType.TheVariants.{Free, Linear, NonLinear}
use Rattle.gpu_block_chunks.specs.Label.{no_label}
use Rattle.gpu_block_pieces.specs.FreeList.{Extent, IsGap, SomeExtent}
use Rattle.gpu_block_pieces.specs.Changes.{with_gap, without_gap, without_extent, Releases}
use Rattle.gpu_block_chunks.specs.ChunkList.{IsFree, Covers, filled_chunk, joined_chunk, join_back, join_front, AreDistinct}
use Rattle.gpu_block_pieces.specs.Chunks.{NotBothFree, NoneTouch, last_kind, AreChunks, IsChunk, extent, extents_of, gaps_of, free_list_of, HoldsChunkId, IsReleasedAt}
use Rattle.gpu_block_pieces.proofs.Numbers.{Not, distinct_less, same_chunk_id, same_distinct, joined_chunk_id, joined_distinct}
use Rattle.gpu_block_pieces.proofs.Tiling.{Neighbours, around, Covers-join, last_kind-push}
use Rattle.gpu_block_pieces.proofs.Edits.{join_front-push, join_kinds-free, join_kinds-live}
use Rattle.gpu_block_pieces.proofs.Views.{free_or_live, extents-free, gaps-free, gaps-live, extents-append, gaps-append, extents-split, contains_chunk, member_of}
use Rattle.gpu_block_pieces.proofs.GapStarts.{gap_of_chunk, placed_at, left_of}
use Rattle.gpu_block_pieces.proofs.Takings.{StartsIn, GapIn, extents_in, gaps_in, Touching, touching, touch_join, live_after, live_before, Each, each_of}
use Rattle.gpu_block_pieces.proofs.OrderedLists.{kept_all, kept_mid, placed-mid}

is_free_kind : (k : AllocationType) → IsFree k → k ≡ Free
is_free_kind Free h = refl
is_free_kind Linear h = absurd h
is_free_kind NonLinear h = absurd h

abbrev pub freed : Chunk → Chunk
freed c = filled_chunk c c.start Free no_label

-- the freed chunk and what stands behind it, after the join
pub record Behind (counter size : ℕ) (c : Chunk) (back : List Chunk) : Type 0 where
  pub gap : Chunk
  pub rest : List Chunk
  pub is : join_back (freed c) back ≡ gap ∷ rest
  pub start : gap.start ≡ c.start
  pub chunk_id : gap.chunk_id ≡ c.chunk_id
  pub offset : gap.offset ≡ c.start
  pub free : IsFree gap.kind
  pub longer : c.size ≤ gap.size
  pub covers : Covers rest (c.start + gap.size) size
  pub touch : NoneTouch Free rest
  pub each : All (IsChunk counter) rest
  pub extents : extents_of rest ≡ extents_of back
  pub gaps : gaps_of rest ≡ without_gap (c.start + c.size) (gaps_of back)
  pub carry : (k : ℕ) → All (Not k) (c ∷ back) → All (Not k) (gap ∷ rest)
  pub distinct : AreDistinct (c ∷ back) → AreDistinct (gap ∷ rest)

pub behind : (counter size : ℕ) (c : Chunk) (back : List Chunk) → Covers back (c.start + c.size) size → NoneTouch c.kind back → All (IsChunk counter) back → Behind counter size c back
behind counter size c [] covers touch each =
    record {
      gap = freed c;
      rest = [];
      is = refl;
      start = refl;
      chunk_id = refl;
      offset = refl;
      free = tt;
      longer = omega arith;
      covers = covers;
      touch = tt;
      each = each;
      extents = refl;
      gaps = refl;
      carry = same_chunk_id c (freed c) [] refl;
      distinct = same_distinct c (freed c) [] refl;
    }
behind counter size c (b ∷ bs) covers touch each =
    let at : b.start ≡ c.start + c.size = covers.0 in
    let pos : 0 < b.size = covers.1 in
    let high : All (λ p. p.0 ≢ c.start + c.size) (gaps_of bs) = All-weaker (GapIn (c.start + c.size + b.size) size) (λ p. p.0 ≢ c.start + c.size) (λ p q. (let l = q.0 in λ e. absurd (omega arith)))
    (gaps_of bs) (gaps_in bs (c.start + c.size + b.size) size covers.2) in
    elim (free_or_live b.kind) [
      | inl f ↦
          let sum : c.start + (c.size + b.size) ≡ c.start + c.size + b.size = omega arith in
          record {
            gap = joined_chunk (freed c) b;
            rest = bs;
            is = join_kinds-free b.kind (freed c) b bs f;
            start = refl;
            chunk_id = refl;
            offset = refl;
            free = tt;
            longer = omega arith;
            covers = rw sum covers.2;
            touch = subst (λ k. NoneTouch k bs) (is_free_kind b.kind f) touch.1;
            each = All-tail (IsChunk counter) b bs each;
            extents = sym (extents-free b bs f);
            gaps = sym (ap (without_gap (c.start + c.size)) (gaps-free b bs f) ∙ kept_mid (λ p. p.0) (c.start + c.size) (b.start, b.chunk_id) [] (gaps_of bs) at (All-nil (λ p. p.0 ≢ c.start + c.size))
                high);
            carry = λ k h. joined_chunk_id (freed c) b bs k (same_chunk_id c (freed c) (b ∷ bs) refl k h);
            distinct = λ h. joined_distinct (freed c) b bs (same_distinct c (freed c) (b ∷ bs) refl h);
          }
      | inr l ↦
          record {
            gap = freed c;
            rest = b ∷ bs;
            is = join_kinds-live b.kind (freed c) b bs l;
            start = refl;
            chunk_id = refl;
            offset = refl;
            free = tt;
            longer = omega arith;
            covers = covers;
            touch = (live_after Free b.kind l, touch.1);
            each = each;
            extents = refl;
            gaps = gaps-live b bs l ∙ sym (ap (without_gap (c.start + c.size)) (gaps-live b bs l) ∙ kept_all (λ p. p.0) (c.start + c.size) (gaps_of bs) high);
            carry = same_chunk_id c (freed c) (b ∷ bs) refl;
            distinct = same_distinct c (freed c) (b ∷ bs) refl;
          }
    ]

module _ (size g counter : ℕ) (cs front back : List Chunk) (c : Chunk) (split : cs ≡ front ++ c ∷ back) (are : AreChunks cs size counter) (live : IsFree c.kind → ⊥) where
  abbrev pub parts : AreChunks (front ++ c ∷ back) size counter
  parts = subst (λ (xs : List Chunk). AreChunks xs size counter) split are

  pub the_around : Neighbours front c back 0 size
  the_around = around front c back 0 size parts.covers

  the_touching : Touching Linear front c back
  the_touching = touching Linear front c back parts.none_touch

  the_each : Each counter front c back
  the_each = each_of counter front c back parts.each

  pub the_behind : Behind counter size c back
  the_behind = behind counter size c back the_around.after the_touching.after the_each.after

  -- what the block's lists are without the chunk
  old_extents : without_extent c.start (extents_of cs) ≡ extents_of front ++ extents_of back
  old_extents =
      let r = the_around in
      let pos = r.nonempty in
      ap (λ ys. without_extent c.start (extents_of ys)) split ∙ (ap (without_extent c.start) (extents-split front back c live) ∙
      kept_mid (λ y. y.start) c.start (extent c) (extents_of front) (extents_of back) refl
      (All-weaker (StartsIn 0 c.start) (λ y. y.start ≢ c.start) (λ y q. (let l = q.1 in λ e. absurd (omega arith))) (extents_of front) (extents_in front 0 c.start r.before))
      (All-weaker (StartsIn (c.start + c.size) size) (λ y. y.start ≢ c.start) (λ y q. (let l = q.0 in λ e. absurd (omega arith))) (extents_of back) (extents_in back (c.start + c.size) size r.after)))

  old_gaps : without_gap (c.start + c.size) (gaps_of cs) ≡ gaps_of front ++ gaps_of the_behind.rest
  old_gaps =
      let r = the_around in
      let pos = r.nonempty in
      let low : All (λ p. p.0 ≢ c.start + c.size) (gaps_of front) = All-weaker (GapIn 0 c.start) (λ p. p.0 ≢ c.start + c.size) (λ p q. (let l = q.1 in λ e. absurd (omega arith))) (gaps_of front)
      (gaps_in front 0 c.start r.before) in
      let lists : gaps_of cs ≡ gaps_of front ++ gaps_of back = ap gaps_of split ∙ (gaps-append front (c ∷ back) ∙ ap (λ ys. gaps_of front ++ ys) (gaps-live c back live)) in
      ap (without_gap (c.start + c.size)) lists ∙ (filter-append (λ p. not (eqb p.0 (c.start + c.size))) (gaps_of front) (gaps_of back) ∙
      (ap (λ ys. ys ++ without_gap (c.start + c.size) (gaps_of back)) (kept_all (λ p. p.0) (c.start + c.size) (gaps_of front) low) ∙ ap (λ ys. gaps_of front ++ ys) (sym the_behind.gaps)))

  with_old : with_gap c.start c.chunk_id (without_gap (c.start + c.size) (gaps_of cs)) ≡ gaps_of front ++ (c.start, c.chunk_id) ∷ gaps_of the_behind.rest
  with_old =
      let r = the_around in
      let pos = r.nonempty in
      let b = the_behind in
      let more = b.longer in
      ap (with_gap c.start c.chunk_id) old_gaps ∙
      placed-mid (λ p. p.0) (c.start, c.chunk_id) (gaps_of front) (gaps_of b.rest)
      (All-weaker (GapIn 0 c.start) (λ p. p.0 < c.start) (λ p q. q.1) (gaps_of front) (gaps_in front 0 c.start r.before))
      (All-weaker (GapIn (c.start + b.gap.size) size) (λ p. c.start ≤ p.0) (λ p q. (let l = q.0 in omega arith)) (gaps_of b.rest) (gaps_in b.rest (c.start + b.gap.size) size b.covers))

  gap_chunk : IsChunk counter the_behind.gap
  gap_chunk =
      let b = the_behind in
      let s = b.start in let n = b.chunk_id in let o = b.offset in let z = b.longer in
      let at = the_each.at in
      let p = at.positive in let q = at.given in
      let pos = the_around.nonempty in
      record { after = omega arith; before = omega arith; positive = omega arith; given = omega arith }

  -- ---- nothing free stands before it

  abbrev pub Alone : Type 0
  Alone = NotBothFree (last_kind Linear front) Free

  module _ (alone : NotBothFree (last_kind Linear front) Free) (new : List Chunk) (is : new ≡ front ++ the_behind.gap ∷ the_behind.rest) where
    pub alone_are : AreChunks new size counter
    alone_are =
        let b = the_behind in
        let pos = the_around.nonempty in
        let more = b.longer in
        let s = b.start in
        subst (λ (xs : List Chunk). AreChunks xs size counter) (sym is) (record {
          covers = Covers-join front (b.gap ∷ b.rest) 0 c.start size the_around.before (s, omega arith, b.covers);
          none_touch = touch_join Linear front b.gap b.rest
              (record { before = the_touching.before; at = rw (is_free_kind b.gap.kind b.free) alone; after = rw (is_free_kind b.gap.kind b.free) b.touch });
          each = All-append (IsChunk counter) front (b.gap ∷ b.rest) the_each.before (All-cons (IsChunk counter) b.gap b.rest gap_chunk b.each);
          distinct = distinct_less front (c ∷ back) (b.gap ∷ b.rest) b.carry b.distinct parts.distinct;
        })

    pub alone_extents : extents_of new ≡ without_extent c.start (extents_of cs)
    alone_extents =
        let b = the_behind in
        ap extents_of is ∙ (extents-append front (b.gap ∷ b.rest) ∙ (ap (λ ys. extents_of front ++ ys) (extents-free b.gap b.rest b.free ∙ b.extents) ∙ sym old_extents))

    pub alone_gaps : gaps_of new ≡ with_gap c.start c.chunk_id (without_gap (c.start + c.size) (gaps_of cs))
    alone_gaps =
        let b = the_behind in
        ap gaps_of is ∙ (gaps-append front (b.gap ∷ b.rest) ∙
        (ap (λ ys. gaps_of front ++ ys) (gaps-free b.gap b.rest b.free ∙ (ap (λ k. (k, b.gap.chunk_id) ∷ gaps_of b.rest) b.start ∙ ap (λ k. (c.start, k) ∷ gaps_of b.rest) b.chunk_id)) ∙ sym
        with_old))

  -- ---- a free chunk stands before it

  module _ (before : List Chunk) (l : Chunk) (fronts : front ≡ before ++ l ∷ []) (free : IsFree l.kind) (new : List Chunk) (is : new ≡ before ++ joined_chunk l the_behind.gap ∷ the_behind.rest) where
    left_around : Neighbours before l [] 0 c.start
    left_around = around before l [] 0 c.start (subst (λ (xs : List Chunk). Covers xs 0 c.start) fronts the_around.before)

    left_touching : Touching Linear before l []
    left_touching = touching Linear before l [] (subst (λ (xs : List Chunk). NoneTouch Linear xs) fronts the_touching.before)

    left_each : Each counter before l []
    left_each = each_of counter before l [] (subst (λ (xs : List Chunk). All (IsChunk counter) xs) fronts the_each.before)

    pub joined_are : AreChunks new size counter
    joined_are =
        let b = the_behind in
        let pos = left_around.nonempty in
        let end : l.start + l.size ≡ c.start = left_around.after in
        let sum : l.start + (l.size + b.gap.size) ≡ c.start + b.gap.size = omega arith in
        let at = left_each.at in
        let x = at.after in let y = at.before in
        subst (λ (xs : List Chunk). AreChunks xs size counter) (sym is) (record {
          covers = Covers-join before (joined_chunk l b.gap ∷ b.rest) 0 l.start size left_around.before (refl, omega arith, rw sum b.covers);
          none_touch = touch_join Linear before (joined_chunk l b.gap) b.rest (record { before = left_touching.before; at = left_touching.at; after = rw (is_free_kind l.kind free) b.touch });
          each = All-append (IsChunk counter) before (joined_chunk l b.gap ∷ b.rest) left_each.before
              (All-cons (IsChunk counter) (joined_chunk l b.gap) b.rest (record { after = x; before = omega arith; positive = at.positive; given = at.given }) b.each);
          distinct = distinct_less before (l ∷ c ∷ back) (joined_chunk l b.gap ∷ b.rest)
              (λ k h. joined_chunk_id l b.gap b.rest k (All-cons (Not k) l (b.gap ∷ b.rest) (All-head (Not k) l (c ∷ back) h) (b.carry k (All-tail (Not k) l (c ∷ back) h))))
              (λ h. joined_distinct l b.gap b.rest (b.carry l.chunk_id h.0, b.distinct h.1))
              (subst (λ (xs : List Chunk). AreDistinct xs) (ap (λ ys. ys ++ c ∷ back) fronts ∙ append_assoc before (l ∷ []) (c ∷ back)) parts.distinct);
        })

    pub joined_extents : extents_of new ≡ without_extent c.start (extents_of cs)
    joined_extents =
        let b = the_behind in
        let lone : extents_of front ≡ extents_of before = ap extents_of fronts ∙
        (extents-append before (l ∷ []) ∙ (ap (λ ys. extents_of before ++ ys) (extents-free l [] free) ∙ append-nil (extents_of before))) in
        ap extents_of is ∙ (extents-append before (joined_chunk l b.gap ∷ b.rest) ∙
        (ap (λ ys. extents_of before ++ ys) (extents-free (joined_chunk l b.gap) b.rest free ∙ b.extents) ∙ (ap (λ ys. ys ++ extents_of back) (sym lone) ∙ sym old_extents)))

    pub joined_gaps : gaps_of new ≡ without_gap (c.start + c.size) (gaps_of cs)
    joined_gaps =
        let b = the_behind in
        let lone : gaps_of front ≡ gaps_of before ++ (l.start, l.chunk_id) ∷ [] = ap gaps_of fronts ∙ (gaps-append before (l ∷ []) ∙ ap (λ ys. gaps_of before ++ ys) (gaps-free l [] free)) in
        ap gaps_of is ∙ (gaps-append before (joined_chunk l b.gap ∷ b.rest) ∙ (ap (λ ys. gaps_of before ++ ys) (gaps-free (joined_chunk l b.gap) b.rest free) ∙
        (sym (append_assoc (gaps_of before) ((l.start, l.chunk_id) ∷ []) (gaps_of b.rest)) ∙ (ap (λ ys. ys ++ gaps_of b.rest) (sym lone) ∙ sym old_gaps))))

-- ---- the release

pub record Released (size g counter : ℕ) (cs new : List Chunk) (chunk_id : ℕ) : Type 0 where
  pub are : AreChunks new size counter
  pub releases : Releases (free_list_of size g counter cs) chunk_id (free_list_of size g counter new)

-- no gap ends at the start of a chunk behind a piece
no_gap_behind : (size g counter : ℕ) (cs before back : List Chunk) (l c : Chunk) → cs ≡ before ++ l ∷ c ∷ back → (IsFree l.kind → ⊥) → 0 < l.size → l.start + l.size ≡ c.start → (s : ℕ) → IsGap
    (free_list_of size g counter cs) s c.start → ⊥
no_gap_behind size g counter cs before back l c split live pos end s gap =
    let more = gap.nonempty in
    let m = All-contains (λ (y : Extent). (y.end ≤ s) ⊎ (c.start ≤ y.start)) (extents_of cs) (extent l) gap.meets_none (contains_chunk cs before (c ∷ back) l split live) in
    elim m [ inl a ↦ omega arith | inr a ↦ omega arith ]

released_alone : (size g counter : ℕ) (cs front back : List Chunk) (c : Chunk) (split : cs ≡ front ++ c ∷ back) (are : AreChunks cs size counter) (live : IsFree c.kind → ⊥) (chunk_id : ℕ) → c.chunk_id ≡
    chunk_id → (new : List Chunk) → NotBothFree (last_kind Linear front) Free → new ≡ front ++ (the_behind size g counter cs front back c split are live).gap ∷
    (the_behind size g counter cs front back c split are live).rest → ((s : ℕ) → IsGap (free_list_of size g counter cs) s c.start → ⊥) → Released size g counter cs new chunk_id
released_alone size g counter cs front back c split are live chunk_id num new alone is none =
    record {
      are = alone_are size g counter cs front back c split are live alone new is;
      releases = record {
        gone = extent c;
        held = contains_chunk cs front back c split live;
        numbered = num;
        extents = alone_extents size g counter cs front back c split are live alone new is;
        numbers = inr (none, alone_gaps size g counter cs front back c split are live alone new is ∙ ap (λ k. with_gap c.start k (without_gap (c.start + c.size) (gaps_of cs))) num);
        same = (refl, refl, refl);
      };
    }

pub released : (size g counter : ℕ) (cs front back : List Chunk) (c : Chunk) (split : cs ≡ front ++ c ∷ back) (are : AreChunks cs size counter) (live : IsFree c.kind → ⊥) (chunk_id : ℕ) → c.chunk_id ≡
    chunk_id → (new : List Chunk) → new ≡ join_front front (join_back (freed c) back) → Released size g counter cs new chunk_id
released size g counter cs [] back c split are live chunk_id num new is =
    let b = the_behind size g counter cs [] back c split are live in
    let zero_start : 0 ≡ c.start = (the_around size g counter cs [] back c split are live).before in
    released_alone size g counter cs [] back c split are live chunk_id num new tt (is ∙ b.is) (λ s gap. (let m = gap.nonempty in omega arith))
released size g counter cs (f ∷ fs) back c split are live chunk_id num new is =
    let b = the_behind size g counter cs (f ∷ fs) back c split are live in
    let left = left_of cs size f fs c back (placed_at cs size (f ∷ fs) c back split are.covers are.none_touch) in
    let l = left.chunk in
    let pos = (around left.before l (c ∷ back) 0 size (subst (λ (xs : List Chunk). Covers xs 0 size) left.split are.covers)).nonempty in
    let pushed : new ≡ join_front (left.before ++ l ∷ []) (b.gap ∷ b.rest) = is ∙ (ap (λ ys. join_front (f ∷ fs) ys) b.is ∙ ap (λ ys. join_front ys (b.gap ∷ b.rest)) left.is) in
    let kinds = pushed ∙ join_front-push left.before l b.gap b.rest in
    elim (free_or_live l.kind) [
      | inl free ↦
          let at : new ≡ left.before ++ joined_chunk l b.gap ∷ b.rest = kinds ∙ ap (λ ys. left.before ++ ys) (join_kinds-free l.kind l b.gap b.rest free) in
          let gap : IsGap (free_list_of size g counter cs) l.start c.start = subst (λ e. IsGap (free_list_of size g counter cs) l.start e) left.ends
          (gap_of_chunk cs size g counter left.before (c ∷ back) l left.split are.covers are.none_touch free) in
          record {
            are = joined_are size g counter cs (f ∷ fs) back c split are live left.before l left.is free new at;
            releases = record {
              gone = extent c;
              held = contains_chunk cs (f ∷ fs) back c split live;
              numbered = num;
              extents = joined_extents size g counter cs (f ∷ fs) back c split are live left.before l left.is free new at;
              numbers = inl (l.start, gap, joined_gaps size g counter cs (f ∷ fs) back c split are live left.before l left.is free new at);
              same = (refl, refl, refl);
            };
          }
      | inr alive ↦
          let at : new ≡ left.before ++ l ∷ b.gap ∷ b.rest = kinds ∙ ap (λ ys. left.before ++ ys) (join_kinds-live l.kind l b.gap b.rest alive) in
          let fronts : new ≡ (f ∷ fs) ++ b.gap ∷ b.rest = at ∙ (sym (append_assoc left.before (l ∷ []) (b.gap ∷ b.rest)) ∙ ap (λ ys. ys ++ b.gap ∷ b.rest) (sym left.is)) in
          let last : last_kind Linear (f ∷ fs) ≡ l.kind = ap (last_kind Linear) left.is ∙ last_kind-push Linear left.before l in
          released_alone size g counter cs (f ∷ fs) back c split are live chunk_id num new (subst (λ k. NotBothFree k Free) (sym last) (live_before l.kind Free alive)) fronts
          (no_gap_behind size g counter cs left.before back l c left.split alive pos left.ends)
    ]

-- ---- by the number

pub released_at : (size g counter : ℕ) (cs new : List Chunk) (i chunk_id : ℕ) → AreChunks cs size counter → HoldsChunkId cs chunk_id i → IsReleasedAt cs i new → Released size g counter cs new chunk_id
released_at size g counter cs new i chunk_id are h rel =
    released size g counter cs h.front h.back h.chunk h.split are h.live chunk_id h.numbered new (rel h.front h.chunk h.back h.split h.index)

pub none_live : (size g counter : ℕ) (cs : List Chunk) (chunk_id : ℕ) → ((k : ℕ) → HoldsChunkId cs chunk_id k → ⊥) → SomeExtent (free_list_of size g counter cs) (λ x. x.chunk_id ≡ chunk_id) → ⊥
none_live size g counter cs chunk_id none w =
    let m = member_of cs w.0 w.1 in
    none (length m.front) (record { front = m.front; chunk = m.chunk; back = m.back; split = m.split; index = refl; live = m.live; numbered = ap (λ y. y.chunk_id) (sym m.same) ∙ w.2 })
