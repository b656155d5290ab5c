-- What the search finds among the chunks is the chosen gap of the block.
use Rattle.std.proofs.Common.{◌≡◌, ◌≢◌, ℕ, suc, ◌+◌, ◌≤◌, List, [], ◌∷◌, ◌++◌, length, refl, sym, ap, ◌∙◌, subst, inl, inr, arith}
use Rattle.std.proofs.lemmas.List.{append_assoc, length-append}
use Rattle.gpu_block_chunks.specs.declared.chunk.Chunk.{Chunk}
use Rattle.gpu_block_pieces.specs.declared.place.Wanted.{Wanted}
use Rattle.gpu_block_pieces.specs.Chunks.{FoundAt}
use Rattle.gpu_values.specs.declared.allocation_type.AllocationType.{AllocationType}
use Rattle.gpu_values.specs.declared.allocation_type.AllocationType.TheVariants.{Free, Linear, NonLinear}
use Rattle.gpu_block_pieces.specs.Place.{OtherEnds, OtherStarts, FitsBetween, RequestFits, IsBestFit}
use Rattle.gpu_block_chunks.specs.ChunkList.{IsFree, Covers}
use Rattle.gpu_block_pieces.specs.Chunks.{NoneTouch, last_kind, first_kind, Differ, extent, free_list_of, FitsAt, IsBestOf, NoneFits, size_at}
use Rattle.gpu_block_pieces.proofs.Tiling.{Neighbours, around, Covers-le, last_kind-push, size_at-split}
use Rattle.gpu_block_pieces.proofs.Views.{member_of, contains_chunk, earlier, same, later}
use Rattle.gpu_block_pieces.proofs.GapStarts.{Placed, placed_at, left_of, order_in, gap_of_chunk, FreeChunk, chunk_of_gap}

differ_from : (k kind : AllocationType) → (IsFree k → ⊥) → (kind ≢ Free) → k ≢ kind → Differ k kind
differ_from Free kind live piece ne = live tt
differ_from Linear Free live piece ne = piece refl
differ_from Linear Linear live piece ne = ne refl
differ_from Linear NonLinear live piece ne = tt
differ_from NonLinear Free live piece ne = piece refl
differ_from NonLinear Linear live piece ne = tt
differ_from NonLinear NonLinear live piece ne = ne refl

pub differ_live : (k kind : AllocationType) → Differ k kind → IsFree k → ⊥
differ_live Free kind d f = d
differ_live Linear kind d f = f
differ_live NonLinear kind d f = f

differ_ne : (k kind : AllocationType) → Differ k kind → k ≢ kind
differ_ne Free kind d e = d
differ_ne Linear Free d e = d
differ_ne Linear Linear d e = d
differ_ne Linear NonLinear d e = cc
differ_ne NonLinear Free d e = d
differ_ne NonLinear Linear d e = cc
differ_ne NonLinear NonLinear d e = d

around_in : (cs : List Chunk) (size : ℕ) (f b : List Chunk) (c : Chunk) → Covers cs 0 size → cs ≡ f ++ c ∷ b → Neighbours f c b 0 size
around_in cs size f b c h p = around f c b 0 size (subst (λ (xs : List Chunk). Covers xs 0 size) p h)

-- ---- an extent of the other kind before a free chunk

pub left_shows : (cs : List Chunk) (size g n : ℕ) (front back : List Chunk) (c : Chunk) (kind : AllocationType) → Placed cs size front c back → IsFree c.kind → Differ (last_kind Free front) kind →
    OtherEnds (free_list_of size g n cs) kind c.start
left_shows cs size g n [] back c kind p free d = absurd d
left_shows cs size g n (f ∷ fs) back c kind p free d =
    let l = left_of cs size f fs c back p in
    let k : last_kind Free (f ∷ fs) ≡ l.chunk.kind = ap (last_kind Free) l.is ∙ last_kind-push Free l.before l.chunk in
    let dl : Differ l.chunk.kind kind = subst (λ h. Differ h kind) k d in
    (extent l.chunk, contains_chunk cs l.before (c ∷ back) l.chunk l.split (differ_live l.chunk.kind kind dl), (differ_ne l.chunk.kind kind dl, l.ends))

pub left_seen : (cs : List Chunk) (size g n : ℕ) (front back : List Chunk) (c : Chunk) (kind : AllocationType) → Covers cs 0 size → kind ≢ Free → Placed cs size front c back → OtherEnds
    (free_list_of size g n cs) kind c.start → Differ (last_kind Free front) kind
left_seen cs size g n [] back c kind covers piece p w =
    let m = member_of cs w.0 w.1 in
    let r = around_in cs size m.front m.back m.chunk covers m.split in
    let pos = r.nonempty in
    let z : c.start ≡ 0 = p.covers.0 in
    let e1 : w.0.end ≡ m.chunk.start + m.chunk.size = ap (λ y. y.end) m.same in
    let e0 : w.0.end ≡ c.start = w.2.1 in
    absurd (omega arith)
left_seen cs size g n (f ∷ fs) back c kind covers piece p w =
    let m = member_of cs w.0 w.1 in
    let l = left_of cs size f fs c back p in
    let r = around_in cs size m.front m.back m.chunk covers m.split in
    let q = around_in cs size l.before (c ∷ back) l.chunk covers l.split in
    let pos = r.nonempty in
    let pos2 = q.nonempty in
    let le = l.ends in
    let e1 : w.0.end ≡ m.chunk.start + m.chunk.size = ap (λ y. y.end) m.same in
    let e0 : w.0.end ≡ c.start = w.2.1 in
    let k : last_kind Free (f ∷ fs) ≡ l.chunk.kind = ap (last_kind Free) l.is ∙ last_kind-push Free l.before l.chunk in
    elim (order_in cs size l.before (c ∷ back) m.front m.back l.chunk m.chunk covers l.split m.split) [
      | earlier a o ↦ absurd (omega arith)
      | same u v ↦
          let mk : w.0.kind ≡ m.chunk.kind = ap (λ y. y.kind) m.same in
          let ne : m.chunk.kind ≢ kind = λ e. w.2.0 (mk ∙ e) in
          let d : Differ m.chunk.kind kind = differ_from m.chunk.kind kind m.live piece ne in
          subst (λ h. Differ h kind) (ap (λ y. y.kind) (sym v) ∙ sym k) d
      | later a o ↦ absurd (omega arith)
    ]

-- ---- and behind it

pub right_shows : (cs : List Chunk) (size g n : ℕ) (front back : List Chunk) (c : Chunk) (kind : AllocationType) → Placed cs size front c back → Differ (first_kind back) kind → OtherStarts
    (free_list_of size g n cs) kind (c.start + c.size)
right_shows cs size g n front [] c kind p d = absurd d
right_shows cs size g n front (b ∷ bs) c kind p d =
    let r = around front c (b ∷ bs) 0 size p.covers in
    let split : cs ≡ (front ++ c ∷ []) ++ b ∷ bs = p.split ∙ sym (append_assoc front (c ∷ []) (b ∷ bs)) in
    (extent b, contains_chunk cs (front ++ c ∷ []) bs b split (differ_live b.kind kind d), (differ_ne b.kind kind d, r.after.0))

pub right_seen : (cs : List Chunk) (size g n : ℕ) (front back : List Chunk) (c : Chunk) (kind : AllocationType) → Covers cs 0 size → kind ≢ Free → Placed cs size front c back → OtherStarts
    (free_list_of size g n cs) kind (c.start + c.size) → Differ (first_kind back) kind
right_seen cs size g n front [] c kind covers piece p w =
    let m = member_of cs w.0 w.1 in
    let r = around_in cs size m.front m.back m.chunk covers m.split in
    let pos = r.nonempty in
    let le = Covers-le m.back (m.chunk.start + m.chunk.size) size r.after in
    let z : c.start + c.size ≡ size = (around front c [] 0 size p.covers).after in
    let e1 : w.0.start ≡ m.chunk.start = ap (λ y. y.start) m.same in
    let e0 : w.0.start ≡ c.start + c.size = w.2.1 in
    absurd (omega arith)
right_seen cs size g n front (b ∷ bs) c kind covers piece p w =
    let m = member_of cs w.0 w.1 in
    let split : cs ≡ (front ++ c ∷ []) ++ b ∷ bs = p.split ∙ sym (append_assoc front (c ∷ []) (b ∷ bs)) in
    let r = around_in cs size m.front m.back m.chunk covers m.split in
    let q = around_in cs size (front ++ c ∷ []) bs b covers split in
    let pos = r.nonempty in
    let pos2 = q.nonempty in
    let starts : b.start ≡ c.start + c.size = (around front c (b ∷ bs) 0 size p.covers).after.0 in
    let e1 : w.0.start ≡ m.chunk.start = ap (λ y. y.start) m.same in
    let e0 : w.0.start ≡ c.start + c.size = w.2.1 in
    elim (order_in cs size (front ++ c ∷ []) bs m.front m.back b m.chunk covers split m.split) [
      | earlier a o ↦ absurd (omega arith)
      | same u v ↦
          let mk : w.0.kind ≡ m.chunk.kind = ap (λ y. y.kind) m.same in
          let ne : m.chunk.kind ≢ kind = λ e. w.2.0 (mk ∙ e) in
          let d : Differ m.chunk.kind kind = differ_from m.chunk.kind kind m.live piece ne in
          subst (λ h. Differ h kind) (ap (λ y. y.kind) (sym v)) d
      | later a o ↦ absurd (omega arith)
    ]

-- ---- the same fit, said of neighbours in two ways

pub FitsBetween-same : (g a n : ℕ) (L R L' R' : Type 0) (s e o : ℕ) → (L → L') → (L' → L) → (R' → R) → FitsBetween g a n L R s e o → FitsBetween g a n L' R' s e o
FitsBetween-same g a n L R L' R' s e o to back right f =
    let m = f.begins.begins in
    record {
      begins = record {
        begins = record { after = m.after; aligned = m.aligned; apart = λ l. m.apart (back l) };
        least = λ p q. f.begins.least p (record { after = q.after; aligned = q.aligned; apart = λ l. q.apart (to l) });
      };
      inside = f.inside;
      apart = λ r. f.apart (right r);
    }

module _ (cs : List Chunk) (size n : ℕ) (w : Wanted) (name : List ℕ) (covers : Covers cs 0 size) (touch : NoneTouch Linear cs) (piece : w.kind ≢ Free) where
  pub fits_of_chunk : (i o : ℕ) → (f : FitsAt cs w i o) → RequestFits (free_list_of size w.granularity n cs) (record { size = w.size; alignment = w.alignment; kind = w.kind; name = name }) f.chunk.start
      (f.chunk.start + f.chunk.size) o
  fits_of_chunk i o f =
      let p = placed_at cs size f.front f.chunk f.back f.split covers touch in
      record {
        gap = gap_of_chunk cs size w.granularity n f.front f.back f.chunk f.split covers touch f.free;
        between = FitsBetween-same w.granularity w.alignment w.size (Differ (last_kind Free f.front) w.kind) (Differ (first_kind f.back) w.kind)
            (OtherEnds (free_list_of size w.granularity n cs) w.kind f.chunk.start) (OtherStarts (free_list_of size w.granularity n cs) w.kind (f.chunk.start + f.chunk.size)) f.chunk.start
            (f.chunk.start + f.chunk.size) o
            (left_shows cs size w.granularity n f.front f.back f.chunk w.kind p f.free)
            (left_seen cs size w.granularity n f.front f.back f.chunk w.kind covers piece p)
            (right_seen cs size w.granularity n f.front f.back f.chunk w.kind covers piece p)
            f.between;
      }

  pub chunk_of_fits : (s e o : ℕ) → RequestFits (free_list_of size w.granularity n cs) (record { size = w.size; alignment = w.alignment; kind = w.kind; name = name }) s e o → (c : FreeChunk cs s e) × FitsAt
      cs w (length c.front) o
  chunk_of_fits s e o f =
      let c = chunk_of_gap cs size w.granularity n s e covers touch f.gap in
      let p = placed_at cs size c.front c.chunk c.back c.split covers touch in
      let between : FitsBetween w.granularity w.alignment w.size (OtherEnds (free_list_of size w.granularity n cs) w.kind c.chunk.start)
      (OtherStarts (free_list_of size w.granularity n cs) w.kind (c.chunk.start + c.chunk.size)) c.chunk.start (c.chunk.start + c.chunk.size) o = rw (c.ends, c.starts) f.between in (
        c,
        record {
          front = c.front;
          chunk = c.chunk;
          back = c.back;
          split = c.split;
          index = refl;
          free = c.free;
          between = FitsBetween-same w.granularity w.alignment w.size
              (OtherEnds (free_list_of size w.granularity n cs) w.kind c.chunk.start) (OtherStarts (free_list_of size w.granularity n cs) w.kind (c.chunk.start + c.chunk.size))
              (Differ (last_kind Free c.front) w.kind) (Differ (first_kind c.back) w.kind) c.chunk.start (c.chunk.start + c.chunk.size) o
              (left_seen cs size w.granularity n c.front c.back c.chunk w.kind covers piece p)
              (left_shows cs size w.granularity n c.front c.back c.chunk w.kind p c.free)
              (right_shows cs size w.granularity n c.front c.back c.chunk w.kind p)
              between;
        },
      )

  pub none_of_chunks : NoneFits cs w (length cs) → (s e o : ℕ) → RequestFits (free_list_of size w.granularity n cs) (record { size = w.size; alignment = w.alignment; kind = w.kind; name = name }) s e o → ⊥
  none_of_chunks none s e o f =
      let c = chunk_of_fits s e o f in
      let len : length cs ≡ length c.0.front + suc (length c.0.back) = ap length c.0.split ∙ length-append c.0.front (c.0.chunk ∷ c.0.back) in
      none (length c.0.front) o (omega arith) c.1

  pub chosen_of_best : (f : FoundAt) → (b : IsBestOf cs w (length cs) f) → IsBestFit (free_list_of size w.granularity n cs)
      (record { size = w.size; alignment = w.alignment; kind = w.kind; name = name }) b.fits.chunk.start (b.fits.chunk.start + b.fits.chunk.size) f.offset
  chosen_of_best f b =
      let x = b.fits.chunk in
      let fsize : f.size ≡ x.size = b.size ∙ (ap (size_at cs) (sym b.fits.index) ∙ (ap (λ ys. size_at ys (length b.fits.front)) b.fits.split ∙ size_at-split b.fits.front x b.fits.back)) in
      record {
        fits = fits_of_chunk f.index f.offset b.fits;
        best = λ s e o q.
            let c = chunk_of_fits s e o q in
            let y = c.0.chunk in
            let len : length cs ≡ length c.0.front + suc (length c.0.back) = ap length c.0.split ∙ length-append c.0.front (y ∷ c.0.back) in
            let ysize : size_at cs (length c.0.front) ≡ y.size = ap (λ ys. size_at ys (length c.0.front)) c.0.split ∙ size_at-split c.0.front y c.0.back in
            let st = c.0.starts in let en = c.0.ends in let ix = b.fits.index in
            elim (b.best (length c.0.front) o (omega arith) c.1) [
              | inl lt ↦ inl (omega arith)
              | inr eq ↦
                  let e0 = eq.0 in let e1 = eq.1 in
                  let low : x.start ≤ y.start = elim (order_in cs size b.fits.front b.fits.back c.0.front c.0.back x y covers b.fits.split c.0.split) [
                    | earlier l z ↦ absurd (omega arith)
                    | same u v ↦ (let k : x.start ≡ y.start = ap (λ t. t.start) v in omega arith)
                    | later l z ↦ omega arith
                  ] in
                  inr (omega arith, omega arith)
            ];
      }
