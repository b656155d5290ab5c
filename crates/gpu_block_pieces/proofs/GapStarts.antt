-- The free chunks are the block's gaps, and their neighbours its extents.
use Rattle.std.proofs.Common.{◌≡◌, ℕ, ◌+◌, ◌<◌, ◌≤◌, ◌⊎◌, List, [], ◌∷◌, ◌++◌, refl, sym, ap, ◌∙◌, subst, inl, inr, arith}
use Rattle.std.proofs.lemmas.List.{append_assoc}
use Rattle.std.proofs.lemmas.List.Elements.{All-weaker, All-contains}
use Rattle.std.proofs.lemmas.Bool.{cases_lt}
use Rattle.gpu_block_chunks.specs.declared.chunk.Chunk.{Chunk}
use Rattle.gpu_values.specs.declared.allocation_type.AllocationType.{AllocationType}
use Rattle.gpu_values.specs.declared.allocation_type.AllocationType.TheVariants.{Free, Linear, NonLinear}
use Rattle.gpu_block_pieces.specs.FreeList.{Extent, SomeExtent, IsGap}
use Rattle.gpu_block_chunks.specs.ChunkList.{IsFree, Covers}
use Rattle.gpu_block_pieces.specs.Chunks.{NotBothFree, NoneTouch, extent, extents_of, free_list_of}
use Rattle.gpu_block_pieces.proofs.Tiling.{Neighbours, around, Covers-le}
use Rattle.gpu_block_pieces.proofs.Edits.{snoc}
use Rattle.gpu_block_pieces.proofs.Views.{free_or_live, Member, all_members, member_of, contains_chunk, Order, earlier, same, later, order_of}

-- ---- neighbours

pub touch_at : (k : AllocationType) (xs ys : List Chunk) (a b : Chunk) → NoneTouch k (xs ++ a ∷ b ∷ ys) → NotBothFree a.kind b.kind
touch_at k [] ys a b h = h.1.0
touch_at k (x ∷ xs) ys a b h = touch_at x.kind xs ys a b h.1

live_left : (k l : AllocationType) → NotBothFree k l → IsFree l → IsFree k → ⊥
live_left Free Free h f g = h
live_left Free Linear h f g = f
live_left Free NonLinear h f g = f
live_left Linear l h f g = g
live_left NonLinear l h f g = g

live_right : (k l : AllocationType) → NotBothFree k l → IsFree k → IsFree l → ⊥
live_right k l h f g = live_left k l h g f

-- a list as the parts around a chunk, in a block of that size
pub record Placed (cs : List Chunk) (size : ℕ) (front : List Chunk) (c : Chunk) (back : List Chunk) : Type 0 where
  pub split : cs ≡ front ++ c ∷ back
  pub covers : Covers (front ++ c ∷ back) 0 size
  pub touch : NoneTouch Linear (front ++ c ∷ back)

pub placed_at : (cs : List Chunk) (size : ℕ) (front : List Chunk) (c : Chunk) (back : List Chunk) → cs ≡ front ++ c ∷ back → Covers cs 0 size → NoneTouch Linear cs → Placed cs size front c back
placed_at cs size front c back p h t = record { split = p; covers = subst (λ (xs : List Chunk). Covers xs 0 size) p h; touch = subst (λ (xs : List Chunk). NoneTouch Linear xs) p t }

-- the chunk before a free one is a piece that ends where that starts
pub record Left (cs : List Chunk) (front : List Chunk) (c : Chunk) (back : List Chunk) : Type 0 where
  pub before : List Chunk
  pub chunk : Chunk
  pub is : front ≡ before ++ chunk ∷ []
  pub split : cs ≡ before ++ chunk ∷ c ∷ back
  pub ends : chunk.start + chunk.size ≡ c.start
  pub live : IsFree c.kind → IsFree chunk.kind → ⊥

pub left_of : (cs : List Chunk) (size : ℕ) (f : Chunk) (fs : List Chunk) (c : Chunk) (back : List Chunk) → Placed cs size (f ∷ fs) c back → Left cs (f ∷ fs) c back
left_of cs size f fs c back p =
    let s = snoc f fs in
    let parts : (f ∷ fs) ++ c ∷ back ≡ s.front ++ s.last ∷ c ∷ back = ap (λ ys. ys ++ c ∷ back) s.is ∙ append_assoc s.front (s.last ∷ []) (c ∷ back) in
    let r = around s.front s.last (c ∷ back) 0 size (subst (λ (xs : List Chunk). Covers xs 0 size) parts p.covers) in
    let t = touch_at Linear s.front back s.last c (subst (λ (xs : List Chunk). NoneTouch Linear xs) parts p.touch) in
    record { before = s.front; chunk = s.last; is = s.is; split = p.split ∙ parts; ends = sym r.after.0; live = λ free l. live_left s.last.kind c.kind t free l }

-- ---- the order of two chunks

pub order_in : (cs : List Chunk) (size : ℕ) (f b g e : List Chunk) (c d : Chunk) → Covers cs 0 size → cs ≡ f ++ c ∷ b → cs ≡ g ++ d ∷ e → Order f c g d
order_in cs size f b g e c d h p q = order_of f b g e c d 0 size (sym p ∙ q) (subst (λ (xs : List Chunk). Covers xs 0 size) p h)

size_of : (cs : List Chunk) (size : ℕ) (f b : List Chunk) (c : Chunk) → Covers cs 0 size → cs ≡ f ++ c ∷ b → Neighbours f c b 0 size
size_of cs size f b c h p = around f c b 0 size (subst (λ (xs : List Chunk). Covers xs 0 size) p h)

-- an extent that is apart from a free chunk
apart_from : (cs : List Chunk) (size : ℕ) (f b : List Chunk) (c : Chunk) → Covers cs 0 size → cs ≡ f ++ c ∷ b → IsFree c.kind → (x : Extent) → Member cs x → (x.end ≤ c.start) ⊎
    (c.start + c.size ≤ x.start)
apart_from cs size f b c h p free x m =
    let e1 : x.end ≡ m.chunk.start + m.chunk.size = ap (λ y. y.end) m.same in
    let e2 : x.start ≡ m.chunk.start = ap (λ y. y.start) m.same in
    elim (order_in cs size f b m.front m.back c m.chunk h p m.split) [
      | earlier l o ↦ inl (omega arith)
      | same u v ↦ absurd (m.live (subst (λ k. IsFree k.kind) v free))
      | later l o ↦ inr (omega arith)
    ]

-- ---- a free chunk is a gap

starts_of : (cs : List Chunk) (size g n : ℕ) (front back : List Chunk) (c : Chunk) → Placed cs size front c back → IsFree c.kind → (c.start ≡ 0) ⊎ SomeExtent (free_list_of size g n cs)
    (λ x. x.end ≡ c.start)
starts_of cs size g n [] back c p free = inl p.covers.0
starts_of cs size g n (f ∷ fs) back c p free =
    let l = left_of cs size f fs c back p in
    inr (extent l.chunk, contains_chunk cs l.before (c ∷ back) l.chunk l.split (l.live free), l.ends)

ends_of : (cs : List Chunk) (size g n : ℕ) (front back : List Chunk) (c : Chunk) → Placed cs size front c back → IsFree c.kind → (c.start + c.size ≡ size) ⊎ SomeExtent (free_list_of size g n cs)
    (λ x. x.start ≡ c.start + c.size)
ends_of cs size g n front [] c p free = inl (around front c [] 0 size p.covers).after
ends_of cs size g n front (b ∷ bs) c p free =
    let r = around front c (b ∷ bs) 0 size p.covers in
    let t = touch_at Linear front bs c b p.touch in
    let split : cs ≡ (front ++ c ∷ []) ++ b ∷ bs = p.split ∙ sym (append_assoc front (c ∷ []) (b ∷ bs)) in
    inr (extent b, contains_chunk cs (front ++ c ∷ []) bs b split (live_right c.kind b.kind t free), r.after.0)

pub gap_of_chunk : (cs : List Chunk) (size g n : ℕ) (front back : List Chunk) (c : Chunk) → cs ≡ front ++ c ∷ back → Covers cs 0 size → NoneTouch Linear cs → IsFree c.kind → IsGap
    (free_list_of size g n cs) c.start (c.start + c.size)
gap_of_chunk cs size g n front back c p h t free =
    let at = placed_at cs size front c back p h t in
    let r = around front c back 0 size at.covers in
    let le = Covers-le back (c.start + c.size) size r.after in
    let pos = r.nonempty in
    record {
      nonempty = omega arith;
      inside = le;
      meets_none = All-weaker (Member cs) (λ x. (x.end ≤ c.start) ⊎ (c.start + c.size ≤ x.start)) (apart_from cs size front back c h p free) (extents_of cs) (all_members cs);
      starts = starts_of cs size g n front back c at free;
      ends = ends_of cs size g n front back c at free;
    }

-- ---- a gap is a free chunk

-- the chunk in which a place lies
pub record Holds (cs : List Chunk) (place : ℕ) : Type 0 where
  pub front : List Chunk
  pub chunk : Chunk
  pub back : List Chunk
  pub split : cs ≡ front ++ chunk ∷ back
  pub low : chunk.start ≤ place
  pub high : place < chunk.start + chunk.size

Holds-more : (c : Chunk) (cs : List Chunk) (place : ℕ) → Holds cs place → Holds (c ∷ cs) place
Holds-more c cs place h = record { front = c ∷ h.front; chunk = h.chunk; back = h.back; split = ap (λ ys. c ∷ ys) h.split; low = h.low; high = h.high }

pub holder : (cs : List Chunk) (from to place : ℕ) → Covers cs from to → from ≤ place → place < to → Holds cs place
holder [] from to place h a b = absurd (omega arith)
holder (c ∷ cs) from to place h a b =
    let s : c.start ≡ from = h.0 in
    elim (cases_lt place (from + c.size)) [
      | inl lt ↦ record { front = []; chunk = c; back = cs; split = refl; low = omega arith; high = omega arith }
      | inr ge ↦ Holds-more c cs place (holder cs (from + c.size) to place h.2 ge b)
    ]

pub record FreeChunk (cs : List Chunk) (start end : ℕ) : Type 0 where
  pub front : List Chunk
  pub chunk : Chunk
  pub back : List Chunk
  pub split : cs ≡ front ++ chunk ∷ back
  pub free : IsFree chunk.kind
  pub starts : chunk.start ≡ start
  pub ends : chunk.start + chunk.size ≡ end

holder_free : (cs : List Chunk) (size g n s e : ℕ) → IsGap (free_list_of size g n cs) s e → (h : Holds cs s) → IsFree h.chunk.kind
holder_free cs size g n s e gap h =
    elim (free_or_live h.chunk.kind) [
      | inl f ↦ f
      | inr l ↦
          let x = extent h.chunk in
          let m = All-contains (λ (y : Extent). (y.end ≤ s) ⊎ (e ≤ y.start)) (extents_of cs) x gap.meets_none (contains_chunk cs h.front h.back h.chunk h.split l) in
          let low = h.low in let high = h.high in let pos = gap.nonempty in
          elim m [ inl a ↦ absurd (omega arith) | inr a ↦ absurd (omega arith) ]
    ]

holder_starts : (cs : List Chunk) (size g n s e : ℕ) → Covers cs 0 size → IsGap (free_list_of size g n cs) s e → (h : Holds cs s) → h.chunk.start ≡ s
holder_starts cs size g n s e covers gap h =
    let low = h.low in let high = h.high in
    let free = holder_free cs size g n s e gap h in
    elim gap.starts [
      | inl z ↦ omega arith
      | inr w ↦
          let m = member_of cs w.0 w.1 in
          let r = size_of cs size m.front m.back m.chunk covers m.split in
          let pos = r.nonempty in
          let e1 : w.0.end ≡ m.chunk.start + m.chunk.size = ap (λ y. y.end) m.same in
          let e0 : w.0.end ≡ s = w.2 in
          elim (order_in cs size h.front h.back m.front m.back h.chunk m.chunk covers h.split m.split) [
            | earlier l o ↦ omega arith
            | same u v ↦ absurd (m.live (subst (λ k. IsFree k.kind) v free))
            | later l o ↦ absurd (omega arith)
          ]
    ]

not_past : (cs : List Chunk) (size g n s e : ℕ) → Covers cs 0 size → IsGap (free_list_of size g n cs) s e → (h : Holds cs s) → h.chunk.start + h.chunk.size ≤ e
not_past cs size g n s e covers gap h =
    let low = h.low in let high = h.high in let pos = gap.nonempty in
    let free = holder_free cs size g n s e gap h in
    let r = size_of cs size h.front h.back h.chunk covers h.split in
    let le = Covers-le h.back (h.chunk.start + h.chunk.size) size r.after in
    elim gap.ends [
      | inl z ↦ omega arith
      | inr w ↦
          let m = member_of cs w.0 w.1 in
          let q = size_of cs size m.front m.back m.chunk covers m.split in
          let more = q.nonempty in
          let e1 : w.0.start ≡ m.chunk.start = ap (λ y. y.start) m.same in
          let e0 : w.0.start ≡ e = w.2 in
          elim (order_in cs size h.front h.back m.front m.back h.chunk m.chunk covers h.split m.split) [
            | earlier l o ↦ absurd (omega arith)
            | same u v ↦ absurd (m.live (subst (λ k. IsFree k.kind) v free))
            | later l o ↦ omega arith
          ]
    ]

not_before : (cs : List Chunk) (size g n s e : ℕ) (front back : List Chunk) (c : Chunk) → Placed cs size front c back → IsFree c.kind → c.start ≤ s → s < c.start + c.size → IsGap
    (free_list_of size g n cs) s e → e ≤ c.start + c.size
not_before cs size g n s e front [] c p free low high gap =
    let r = around front c [] 0 size p.covers in
    let end : c.start + c.size ≡ size = r.after in
    let i = gap.inside in
    omega arith
not_before cs size g n s e front (b ∷ bs) c p free low high gap =
    let r = around front c (b ∷ bs) 0 size p.covers in
    let t = touch_at Linear front bs c b p.touch in
    let split : cs ≡ (front ++ c ∷ []) ++ b ∷ bs = p.split ∙ sym (append_assoc front (c ∷ []) (b ∷ bs)) in
    let starts : b.start ≡ c.start + c.size = r.after.0 in
    let pos : 0 < b.size = r.after.1 in
    let m = All-contains (λ (y : Extent). (y.end ≤ s) ⊎ (e ≤ y.start)) (extents_of cs) (extent b) gap.meets_none (contains_chunk cs (front ++ c ∷ []) bs b split (live_right c.kind b.kind t free)) in
    elim m [ inl a ↦ absurd (omega arith) | inr a ↦ omega arith ]

pub chunk_of_gap : (cs : List Chunk) (size g n s e : ℕ) → Covers cs 0 size → NoneTouch Linear cs → IsGap (free_list_of size g n cs) s e → FreeChunk cs s e
chunk_of_gap cs size g n s e covers touch gap =
    let inside = gap.inside in let pos = gap.nonempty in
    let h = holder cs 0 size s covers (omega arith) (omega arith) in
    let free = holder_free cs size g n s e gap h in
    let a = not_past cs size g n s e covers gap h in
    let b = not_before cs size g n s e h.front h.back h.chunk (placed_at cs size h.front h.chunk h.back h.split covers touch) free h.low h.high gap in
    record { front = h.front; chunk = h.chunk; back = h.back; split = h.split; free = free; starts = holder_starts cs size g n s e covers gap h; ends = omega arith }
