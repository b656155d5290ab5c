-- The bytes of a block's pieces, padding included, and what a take, a release and a changed label make of them.
use Rattle.std.proofs.Common.{◌≡◌, ◌≢◌, ℕ, ◌+◌, ◌-◌, ◌≤◌, List, [], ◌∷◌, ◌++◌, refl, sym, ap, ◌∙◌, subst, inl, inr, arith}
use Rattle.std.proofs.lemmas.List.Sums.{sum_by-append, sum_by-cons}
use Rattle.gpu_block_chunks.specs.declared.chunk.Chunk.{Chunk}
use Rattle.gpu_values.specs.declared.allocation_type.AllocationType.{AllocationType}
use Rattle.gpu_values.specs.declared.allocation_type.AllocationType.TheVariants.{Free, Linear, NonLinear}
use Rattle.gpu_block_chunks.specs.ChunkList.{IsFree, Covers, AreDistinct, cut_chunk, filled_chunk, labelled_chunk, join_back, join_front}
use Rattle.gpu_block_chunks.proofs.Listing.{stands_once}
use Rattle.gpu_block_pieces.specs.FreeList.{Extent, extent_bytes}
use Rattle.gpu_block_gaps.specs.declared.index.Gap.{Gap}
use Rattle.std.proofs.lemmas.Bool.{cases_lt}
use Rattle.gpu_block_chunks.specs.declared.label.Label.{Label}
use Rattle.gpu_block_chunks.specs.Label.{no_label}
use Rattle.gpu_block_pieces.specs.declared.place.Wanted.{Wanted}
use Rattle.gpu_block_pieces.specs.declared.search.Found.{Found}
use Rattle.gpu_block_pieces.specs.Chunks.{HoldsChunkId, IsLabelledAt, IsTaken, extent, extents_of, piece_of}
use Rattle.gpu_block_pieces.specs.Indexed.{IsFreed, IsChosen, chosen_at}
use Rattle.gpu_block_pieces.proofs.Tiling.{around}
use Rattle.gpu_block_pieces.proofs.Edits.{join_kinds-free, join_kinds-live}
use Rattle.gpu_block_pieces.proofs.Views.{free_or_live, extents-free, extents-live, extents-append}

abbrev pub bytes_of : List Chunk → ℕ
bytes_of cs = extent_bytes (extents_of cs)

bytes-free : (c : Chunk) (cs : List Chunk) → IsFree c.kind → bytes_of (c ∷ cs) ≡ bytes_of cs
bytes-free c cs f = ap extent_bytes (extents-free c cs f)

bytes-live : (c : Chunk) (cs : List Chunk) → (IsFree c.kind → ⊥) → bytes_of (c ∷ cs) ≡ c.size + bytes_of cs
bytes-live c cs l =
    let e : c.start + c.size - c.start ≡ c.size = omega arith in
    ap extent_bytes (extents-live c cs l) ∙ (sum_by-cons (λ (x : Extent). x.end - x.start) (extent c) (extents_of cs) ∙ ap (λ n. n + bytes_of cs) e)

pub bytes-append : (xs ys : List Chunk) → bytes_of (xs ++ ys) ≡ bytes_of xs + bytes_of ys
bytes-append xs ys = ap extent_bytes (extents-append xs ys) ∙ sum_by-append (λ (x : Extent). x.end - x.start) (extents_of xs) (extents_of ys)

-- a live chunk between others
bytes-mid : (cs front back : List Chunk) (c : Chunk) → cs ≡ front ++ c ∷ back → (IsFree c.kind → ⊥) → bytes_of cs ≡ bytes_of front + (c.size + bytes_of back)
bytes-mid cs front back c split l = ap bytes_of split ∙ (bytes-append front (c ∷ back) ∙ ap (λ n. bytes_of front + n) (bytes-live c back l))

-- a free one
bytes-gap : (cs front back : List Chunk) (c : Chunk) → cs ≡ front ++ c ∷ back → IsFree c.kind → bytes_of cs ≡ bytes_of front + bytes_of back
bytes-gap cs front back c split f = ap bytes_of split ∙ (bytes-append front (c ∷ back) ∙ ap (λ n. bytes_of front + n) (bytes-free c back f))

pub bytes_below : (cs : List Chunk) (from to : ℕ) → Covers cs from to → from + bytes_of cs ≤ to
bytes_below [] from to h = omega arith
bytes_below (c ∷ cs) from to h =
    let r = bytes_below cs (from + c.size) to h.2 in
    elim (free_or_live c.kind) [
      | inl f ↦ (let e = bytes-free c cs f in omega arith)
      | inr l ↦ (let e = bytes-live c cs l in omega arith)
    ]

-- ---- a release

-- a free chunk before a list, joined with its first one
record Joined (c : Chunk) (back : List Chunk) : Type 0 where
  pub gap : Chunk
  pub rest : List Chunk
  pub is : join_back c back ≡ gap ∷ rest
  pub free : IsFree gap.kind
  pub bytes : bytes_of (gap ∷ rest) ≡ bytes_of back

joined : (c : Chunk) (back : List Chunk) → IsFree c.kind → Joined c back
joined c [] f = record { gap = c; rest = []; is = refl; free = f; bytes = bytes-free c [] f }
joined c (b ∷ bs) f =
    elim (free_or_live b.kind) [
      | inl g ↦ record {
        gap = record c { size = c.size + b.size };
        rest = bs;
        is = join_kinds-free b.kind c b bs g;
        free = f;
        bytes = bytes-free (record c { size = c.size + b.size }) bs f ∙ sym
            (bytes-free b bs g);
      }
      | inr l ↦ record { gap = c; rest = b ∷ bs; is = join_kinds-live b.kind c b bs l; free = f; bytes = bytes-free c (b ∷ bs) f }
    ]

bytes-cons : (c : Chunk) (cs : List Chunk) → bytes_of (c ∷ cs) ≡ bytes_of (c ∷ []) + bytes_of cs
bytes-cons c cs = bytes-append (c ∷ []) cs

bytes-front : (front : List Chunk) (c : Chunk) (back : List Chunk) → IsFree c.kind → bytes_of (join_front front (c ∷ back)) ≡ bytes_of front + bytes_of (c ∷ back)
bytes-front [] c back f = omega arith
bytes-front (a ∷ []) c back f =
    elim (free_or_live a.kind) [
      | inl g ↦
          let one = ap bytes_of (join_kinds-free a.kind a c back g) in
          let two = bytes-free (record a { size = a.size + c.size }) back g in
          let three = bytes-free a [] g in
          let four = bytes-free c back f in
          omega arith
      | inr l ↦ ap bytes_of (join_kinds-live a.kind a c back l) ∙ bytes-cons a (c ∷ back)
    ]
bytes-front (a ∷ b ∷ front) c back f =
    let one = bytes-cons a (join_front (b ∷ front) (c ∷ back)) in
    let two = bytes-front (b ∷ front) c back f in
    let three = bytes-cons a (b ∷ front) in
    omega arith

pub released_bytes : (cs ds : List Chunk) (n bytes : ℕ) → AreDistinct cs → IsFreed cs n bytes ds → bytes_of cs ≡ bytes + bytes_of ds
released_bytes cs ds n bytes w p =
    let at = p.at in
    let r = p.released in
    let s = stands_once cs at.front at.back p.chunk r.chunk n w r.at at.split at.numbered in
    let gap = filled_chunk r.chunk r.chunk.start Free no_label in
    let j = joined gap r.at.back tt in
    let live : IsFree r.chunk.kind → ⊥ = λ f. p.live (subst (λ (x : Chunk). IsFree x.kind) (sym s.chunks) f) in
    let size : bytes ≡ r.chunk.size = p.bytes_is ∙ ap (λ (x : Chunk). x.size) s.chunks in
    let old = bytes-mid cs r.at.front r.at.back r.chunk r.at.split live in
    let new : bytes_of ds ≡ bytes_of r.at.front + bytes_of (j.gap ∷ j.rest) = ap bytes_of (r.is ∙ ap (λ xs. join_front r.at.front xs) j.is) ∙ bytes-front r.at.front j.gap j.rest j.free in
    let same = j.bytes in
    omega arith

-- ---- a take

not_free : (k : AllocationType) → k ≢ Free → IsFree k → ⊥
not_free Free ne f = ne refl
not_free Linear ne f = f
not_free NonLinear ne f = f

pub taken_bytes : (cs ds : List Chunk) (w : Wanted) (f : Found) (counter chunk_id : ℕ) (label : Label) → (h : IsChosen cs w f) → w.kind ≢ Free → IsTaken cs (chosen_at cs w f h) w counter label chunk_id ds
    → bytes_of ds ≡ bytes_of cs + (f.offset + w.size - f.gap.start)
taken_bytes cs ds w f counter chunk_id label h kind taken =
    let fits = h.best.fits in
    let c = fits.chunk in
    let from = taken fits.front c fits.back fits.split fits.index in
    let start : f.gap.start ≡ c.start = ap (λ (g : Gap). g.start) h.gap in
    let inside = fits.between.inside in
    let old = bytes-gap cs fits.front fits.back c fits.split fits.free in
    elim (cases_lt (f.offset + w.size) (c.start + c.size)) [
      | inl lt ↦
          let cut = cut_chunk c (f.offset + w.size - c.start) in
          let piece = piece_of c (chosen_at cs w f h) w counter label in
          let new = bytes-mid ds fits.front (cut ∷ fits.back) piece (from.rest lt).1 (not_free w.kind kind) in
          let rest = bytes-free cut fits.back fits.free in
          omega arith
      | inr ge ↦
          let new = bytes-mid ds fits.front fits.back (filled_chunk c f.offset w.kind label) (from.whole ge).1 (not_free w.kind kind) in
          omega arith
    ]

-- what is taken leaves the pieces within the block
pub room_for : (cs : List Chunk) (size : ℕ) (w : Wanted) (f : Found) → IsChosen cs w f → Covers cs 0 size → bytes_of cs + (f.offset + w.size - f.gap.start) ≤ size
room_for cs size w f h covers =
    let fits = h.best.fits in
    let c = fits.chunk in
    let r = around fits.front c fits.back 0 size (subst (λ (xs : List Chunk). Covers xs 0 size) fits.split covers) in
    let start : f.gap.start ≡ c.start = ap (λ (g : Gap). g.start) h.gap in
    let inside = fits.between.inside in
    let old = bytes-gap cs fits.front fits.back c fits.split fits.free in
    let low = bytes_below fits.front 0 c.start r.before in
    let high = bytes_below fits.back (c.start + c.size) size r.after in
    let after = fits.between.begins.begins.after in
    omega arith

-- ---- a changed label

pub labelled_bytes : (cs ds : List Chunk) (chunk_id i : ℕ) (change : Label → Label) → HoldsChunkId cs chunk_id i → IsLabelledAt cs i change ds → bytes_of ds ≡ bytes_of cs
labelled_bytes cs ds chunk_id i change h labelled =
    bytes-mid ds h.front h.back (labelled_chunk change h.chunk) (labelled h.front h.chunk h.back h.split h.index) h.live ∙ sym (bytes-mid cs h.front h.back h.chunk h.split h.live)
