-- What a new name and a new word leave.
use Rattle.std.proofs.Common.{◌≡◌, ◌≢◌, ℕ, List, [], ◌∷◌, ◌++◌, map, refl, sym, ap, ◌∙◌, subst, inl, inr, arith, Bool, true, false, cond, eqb}
use Rattle.std.specs.Prelude.{All, Contains}
use Rattle.std.proofs.lemmas.List.Elements.{All-nil, All-cons, All-head, All-tail, All-append, All-contains, All-weaker, All-contains_itself, All-map}
use Rattle.gpu_block_chunks.specs.declared.chunk.Chunk.{Chunk}
use Rattle.gpu_block_chunks.specs.declared.label.Label.{Label}
use Rattle.gpu_block_chunks.specs.Label.{with_name, with_word}
use Rattle.gpu_block_chunks.specs.ChunkList.{labelled_chunk}
use Rattle.gpu_values.specs.declared.allocation_type.AllocationType.TheVariants.{Linear}
use Rattle.gpu_block_pieces.specs.FreeList.{Extent, FreeList}
use Rattle.gpu_block_pieces.specs.Changes.{Said, named, worded, relabel, relabelled, Relabels}
use Rattle.gpu_block_pieces.specs.Laws.{IsPageSeparated}
use Rattle.gpu_block_pieces.specs.Chunks.{AreChunks, IsChunk, extent, extents_of, gaps_of, free_list_of, HoldsChunkId, IsLabelledAt}
use Rattle.gpu_block_pieces.proofs.Edits.{Covers-like}
use Rattle.gpu_block_pieces.proofs.Views.{free_or_live, extents-free, extents-live, extents-split, gaps-live, gaps-append, contains_chunk}
use Rattle.gpu_block_pieces.proofs.Takings.{touching, touch_join, each_of}
use Rattle.gpu_block_pieces.proofs.Numbers.{Not, one_at, distinct_less, same_chunk_id, same_distinct}
use Rattle.gpu_block_pieces.proofs.OrderedLists.{changed_mid}

numbers_shown : (k : ℕ) (cs : List Chunk) → All (Not k) cs → All (λ (x : Extent). x.chunk_id ≢ k) (extents_of cs)
numbers_shown k [] h = All-nil (λ (x : Extent). x.chunk_id ≢ k)
numbers_shown k (c ∷ cs) h =
    let rest = numbers_shown k cs (All-tail (Not k) c cs h) in
    elim (free_or_live c.kind) [
      | inl f ↦ subst (λ (xs : List Extent). All (λ (x : Extent). x.chunk_id ≢ k) xs) (sym (extents-free c cs f)) rest
      | inr l ↦ subst (λ (xs : List Extent). All (λ (x : Extent). x.chunk_id ≢ k) xs) (sym (extents-live c cs l))
          (All-cons (λ (x : Extent). x.chunk_id ≢ k) (extent c) (extents_of cs) (All-head (Not k) c cs h) rest)
    ]

-- the list of chunks with a changed label, and what a block shows of it
pub record Relabelled (size g counter : ℕ) (cs new : List Chunk) (chunk_id : ℕ) (said : Said) : Type 0 where
  pub are : AreChunks new size counter
  pub relabels : Relabels (free_list_of size g counter cs) chunk_id said (free_list_of size g counter new)

pub relabelled_at : (size g counter : ℕ) (cs new : List Chunk) (i chunk_id : ℕ) (change : Label → Label) (said : Said)
    → ((c : Chunk) → extent (labelled_chunk change c) ≡ relabel said (extent c)) → AreChunks cs size counter → HoldsChunkId cs chunk_id i → IsLabelledAt cs i change new
    → Relabelled size g counter cs new chunk_id said
relabelled_at size g counter cs new i chunk_id change said shows are h labels =
    let f = h.front in let c = h.chunk in let b = h.back in
    let d = labelled_chunk change c in
    let is = labels f c b h.split h.index in
    let parts : AreChunks (f ++ c ∷ b) size counter = subst (λ (xs : List Chunk). AreChunks xs size counter) h.split are in
    let t = touching Linear f c b parts.none_touch in
    let e = each_of counter f c b parts.each in
    let one = one_at f b c parts.distinct in
    let old_list : extents_of cs ≡ extents_of f ++ extent c ∷ extents_of b = ap extents_of h.split ∙ extents-split f b c h.live in
    let new_list : extents_of new ≡ extents_of f ++ extent d ∷ extents_of b = ap extents_of is ∙ extents-split f b d h.live in
    let mapped = changed_mid (λ (x : Extent). x.chunk_id) c.chunk_id (relabel said) (extent c) (extents_of f) (extents_of b) refl (numbers_shown c.chunk_id f one.0) (numbers_shown c.chunk_id b one.1) in
    record {
      are = subst (λ (xs : List Chunk). AreChunks xs size counter) (sym is) (record {
        covers = Covers-like f b c d 0 size refl refl parts.covers;
        none_touch = touch_join Linear f d b (record { before = t.before; at = t.at; after = t.after });
        each = All-append (IsChunk counter) f (d ∷ b) e.before
            (All-cons (IsChunk counter) d b (record { after = e.at.after; before = e.at.before; positive = e.at.positive; given = e.at.given }) e.after);
        distinct = distinct_less f (c ∷ b) (d ∷ b) (same_chunk_id c d b refl) (same_distinct c d b refl) parts.distinct;
      });
      relabels = record {
        held = (extent c, contains_chunk cs f b c h.split h.live, h.numbered);
        extents = new_list ∙ (ap (λ k. extents_of f ++ k ∷ extents_of b) (shows c) ∙
            (sym mapped ∙ (ap (λ ys. map (relabelled c.chunk_id said) ys) (sym old_list) ∙ ap (λ k. map (relabelled k said) (extents_of cs)) h.numbered)));
        same = (
          refl,
          refl,
          refl,
          ap gaps_of is ∙
              (gaps-append f (d ∷ b) ∙ (ap (λ ys. gaps_of f ++ ys) (gaps-live d b h.live ∙ sym (gaps-live c b h.live)) ∙ (sym (gaps-append f (c ∷ b)) ∙ ap gaps_of (sym h.split)))),
        );
      };
    }

-- a new name, and a new word

pub renamed : (size g counter : ℕ) (cs new : List Chunk) (i chunk_id : ℕ) (name : List ℕ) (text : List ℕ) → name ≡ text → AreChunks cs size counter → HoldsChunkId cs chunk_id i
    → IsLabelledAt cs i (with_name name) new → Relabelled size g counter cs new chunk_id (named text)
renamed size g counter cs new i chunk_id name text et are h sets =
    relabelled_at size g counter cs new i chunk_id (with_name name) (named text) (λ c. ap (λ k. record (extent c) { name = k }) et) are h sets

pub reworded : (size g counter : ℕ) (cs new : List Chunk) (i chunk_id word : ℕ) → AreChunks cs size counter → HoldsChunkId cs chunk_id i
    → IsLabelledAt cs i (with_word word) new → Relabelled size g counter cs new chunk_id (worded word)
reworded size g counter cs new i chunk_id word are h sets = relabelled_at size g counter cs new i chunk_id (with_word word) (worded word) (λ c. refl) are h sets

-- ---- page separation

record Shown (xs : List Extent) (x : Extent) : Type 0 where
  from : Extent
  held : Contains xs from
  kind : x.kind ≡ from.kind
  start : x.start ≡ from.start
  end : x.end ≡ from.end
  offset : x.offset ≡ from.offset

shown_by : (xs : List Extent) (r : Bool) (said : Said) (x : Extent) → Contains xs x → Shown xs (cond r (relabel said x) x)
shown_by xs true (named name) x h = record { from = x; held = h; kind = refl; start = refl; end = refl; offset = refl }
shown_by xs true (worded word) x h = record { from = x; held = h; kind = refl; start = refl; end = refl; offset = refl }
shown_by xs false said x h = record { from = x; held = h; kind = refl; start = refl; end = refl; offset = refl }

shown_of : (xs : List Extent) (chunk_id : ℕ) (said : Said) (x : Extent) → Contains (map (relabelled chunk_id said) xs) x → Shown xs x
shown_of xs chunk_id said x h =
    All-contains (Shown xs) (map (relabelled chunk_id said) xs) x
    (All-map (Shown xs) (relabelled chunk_id said) xs
    (All-weaker (Contains xs) (λ y. Shown xs (relabelled chunk_id said y)) (λ y q. shown_by xs (eqb y.chunk_id chunk_id) said y q) xs (All-contains_itself xs))) h

pub relabels_separated : (old : FreeList) (n : ℕ) (said : Said) (new : FreeList) → IsPageSeparated old → Relabels old n said new → IsPageSeparated new
relabels_separated old n said new apart t = λ x y hx hy ne le.
    let a = shown_of old.extents n said x (subst (λ (xs : List Extent). Contains xs x) t.extents hx) in
    let b = shown_of old.extents n said y (subst (λ (xs : List Extent). Contains xs y) t.extents hy) in
    let ae = a.end in let bs = b.start in
    let r = apart a.from b.from a.held b.held (λ q. ne (a.kind ∙ (q ∙ sym b.kind))) (omega arith) in
    rw (t.same.1, a.end, b.offset) r
