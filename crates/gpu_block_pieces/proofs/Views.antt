-- Chunks and the block that they show: extents, gaps and neighbours.
use Rattle.std.proofs.Common.{◌≡◌, ℕ, ◌+◌, ◌<◌, ◌≤◌, ◌⊎◌, List, [], ◌∷◌, ◌++◌, length, refl, sym, ap, ◌∙◌, subst, inl, inr, arith, Some, None}
use Rattle.std.specs.Prelude.{All, Contains}
use Rattle.std.specs.List.{cons_option}
use Rattle.std.proofs.lemmas.List.{length-append, get_or_at}
use Rattle.std.proofs.lemmas.List.Elements.{filter_map-append, All-nil, All-cons, All-weaker, All-contains}
use Rattle.gpu_block_chunks.specs.declared.chunk.Chunk.{Chunk}
use Rattle.gpu_values.specs.declared.allocation_type.AllocationType.{AllocationType}
use Rattle.gpu_values.specs.declared.allocation_type.AllocationType.TheVariants.{Free, Linear, NonLinear}
use Rattle.gpu_block_pieces.specs.FreeList.{Extent}
use Rattle.gpu_block_chunks.specs.ChunkList.{IsFree, Covers}
use Rattle.gpu_block_pieces.specs.Chunks.{extent, extent_by, gap_by, extents_of, gaps_of}
use Rattle.gpu_block_pieces.proofs.Tiling.{around, Covers-le}

pub free_or_live : (k : AllocationType) → IsFree k ⊎ (IsFree k → ⊥)
free_or_live Free = inl tt
free_or_live Linear = inr (λ h. h)
free_or_live NonLinear = inr (λ h. h)

extent_by-free : (k : AllocationType) (c : Chunk) → IsFree k → extent_by k c ≡ None
extent_by-free Free c h = refl
extent_by-free Linear c h = absurd h
extent_by-free NonLinear c h = absurd h

extent_by-live : (k : AllocationType) (c : Chunk) → (IsFree k → ⊥) → extent_by k c ≡ Some (extent c)
extent_by-live Free c h = absurd (h tt)
extent_by-live Linear c h = refl
extent_by-live NonLinear c h = refl

gap_by-free : (k : AllocationType) (c : Chunk) → IsFree k → gap_by k c ≡ Some (c.start, c.chunk_id)
gap_by-free Free c h = refl
gap_by-free Linear c h = absurd h
gap_by-free NonLinear c h = absurd h

gap_by-live : (k : AllocationType) (c : Chunk) → (IsFree k → ⊥) → gap_by k c ≡ None
gap_by-live Free c h = absurd (h tt)
gap_by-live Linear c h = refl
gap_by-live NonLinear c h = refl

pub extents-free : (c : Chunk) (cs : List Chunk) → IsFree c.kind → extents_of (c ∷ cs) ≡ extents_of cs
extents-free c cs h = ap (λ o. cons_option o (extents_of cs)) (extent_by-free c.kind c h)

pub extents-live : (c : Chunk) (cs : List Chunk) → (IsFree c.kind → ⊥) → extents_of (c ∷ cs) ≡ extent c ∷ extents_of cs
extents-live c cs h = ap (λ o. cons_option o (extents_of cs)) (extent_by-live c.kind c h)

pub gaps-free : (c : Chunk) (cs : List Chunk) → IsFree c.kind → gaps_of (c ∷ cs) ≡ (c.start, c.chunk_id) ∷ gaps_of cs
gaps-free c cs h = ap (λ o. cons_option o (gaps_of cs)) (gap_by-free c.kind c h)

pub gaps-live : (c : Chunk) (cs : List Chunk) → (IsFree c.kind → ⊥) → gaps_of (c ∷ cs) ≡ gaps_of cs
gaps-live c cs h = ap (λ o. cons_option o (gaps_of cs)) (gap_by-live c.kind c h)

pub extents-append : (xs ys : List Chunk) → extents_of (xs ++ ys) ≡ extents_of xs ++ extents_of ys
extents-append xs ys = filter_map-append (λ c. extent_by c.kind c) xs ys

pub gaps-append : (xs ys : List Chunk) → gaps_of (xs ++ ys) ≡ gaps_of xs ++ gaps_of ys
gaps-append xs ys = filter_map-append (λ c. gap_by c.kind c) xs ys

-- ---- which extents there are

-- x is the extent of a chunk that stands in the list
pub record Member (cs : List Chunk) (x : Extent) : Type 0 where
  pub front : List Chunk
  pub chunk : Chunk
  pub back : List Chunk
  pub split : cs ≡ front ++ chunk ∷ back
  pub live : IsFree chunk.kind → ⊥
  pub same : x ≡ extent chunk

Member-more : (c : Chunk) (cs : List Chunk) (x : Extent) → Member cs x → Member (c ∷ cs) x
Member-more c cs x m = record { front = c ∷ m.front; chunk = m.chunk; back = m.back; split = ap (λ ys. c ∷ ys) m.split; live = m.live; same = m.same }

pub all_members : (cs : List Chunk) → All (Member cs) (extents_of cs)
all_members [] = All-nil (Member [])
all_members (c ∷ cs) =
    let rest : All (Member (c ∷ cs)) (extents_of cs) = All-weaker (Member cs) (Member (c ∷ cs)) (Member-more c cs) (extents_of cs) (all_members cs) in
    elim (free_or_live c.kind) [
      | inl f ↦ subst (λ (xs : List Extent). All (Member (c ∷ cs)) xs) (sym (extents-free c cs f)) rest
      | inr l ↦ subst (λ (xs : List Extent). All (Member (c ∷ cs)) xs) (sym (extents-live c cs l))
          (All-cons (Member (c ∷ cs)) (extent c) (extents_of cs) (record { front = []; chunk = c; back = cs; split = refl; live = l; same = refl }) rest)
    ]

pub member_of : (cs : List Chunk) (x : Extent) → Contains (extents_of cs) x → Member cs x
member_of cs x h = All-contains (Member cs) (extents_of cs) x (all_members cs) h

pub contains_mid : {X : Type 0} (xs ys : List X) (y : X) → Contains (xs ++ y ∷ ys) y
contains_mid xs ys y = (length xs, (let e = length-append xs (y ∷ ys) in omega arith), get_or_at xs y ys y (length xs) refl)

pub extents-split : (front back : List Chunk) (c : Chunk) → (IsFree c.kind → ⊥) → extents_of (front ++ c ∷ back) ≡ extents_of front ++ extent c ∷ extents_of back
extents-split front back c live = extents-append front (c ∷ back) ∙ ap (λ ys. extents_of front ++ ys) (extents-live c back live)

pub contains_chunk : (cs front back : List Chunk) (c : Chunk) → cs ≡ front ++ c ∷ back → (IsFree c.kind → ⊥) → Contains (extents_of cs) (extent c)
contains_chunk cs front back c p live =
    subst (λ (xs : List Extent). Contains xs (extent c)) (sym (ap extents_of p ∙ extents-split front back c live)) (contains_mid (extents_of front) (extents_of back) (extent c))

-- ---- two chunks of one list

pub data Order (f : List Chunk) (c : Chunk) (g : List Chunk) (d : Chunk) : Type 0 where
  earlier : length g < length f → d.start + d.size ≤ c.start → Order f c g d
  same : f ≡ g → c ≡ d → Order f c g d
  later : length f < length g → c.start + c.size ≤ d.start → Order f c g d

Order-cons : (x y : Chunk) (f g : List Chunk) (c d : Chunk) → x ≡ y → Order f c g d → Order (x ∷ f) c (y ∷ g) d
Order-cons x y f g c d e (earlier l h) = earlier (omega arith) h
Order-cons x y f g c d e (same p q) = same (ap (λ h. h ∷ f) e ∙ ap (λ h. y ∷ h) p) q
Order-cons x y f g c d e (later l h) = later (omega arith) h

cons_parts : {X : Type 0} (c d : X) (b e : List X) → c ∷ b ≡ d ∷ e → (c ≡ d) × (b ≡ e)
cons_parts c d b e h = (cc, cc)

pub order_of : (f b g e : List Chunk) (c d : Chunk) (from to : ℕ) → f ++ c ∷ b ≡ g ++ d ∷ e → Covers (f ++ c ∷ b) from to → Order f c g d
order_of [] b [] e c d from to p h = same refl (cons_parts c d b e p).0
order_of [] b (y ∷ g) e c d from to p h =
    let q = (cons_parts c y b (g ++ d ∷ e) p).1 in
    let r = around g d e (from + c.size) to (subst (λ (xs : List Chunk). Covers xs (from + c.size) to) q h.2) in
    let le = Covers-le g (from + c.size) d.start r.before in
    let s : c.start ≡ from = h.0 in
    later (omega arith) (omega arith)
order_of (x ∷ f) b [] e c d from to p h =
    let q = (cons_parts x d (f ++ c ∷ b) e p).0 in
    let r = around f c b (from + x.size) to h.2 in
    let le = Covers-le f (from + x.size) c.start r.before in
    let s : x.start ≡ from = h.0 in
    let s1 : x.start ≡ d.start = ap (λ k. k.start) q in
    let s2 : x.size ≡ d.size = ap (λ k. k.size) q in
    earlier (omega arith) (omega arith)
order_of (x ∷ f) b (y ∷ g) e c d from to p h =
    let q = cons_parts x y (f ++ c ∷ b) (g ++ d ∷ e) p in
    Order-cons x y f g c d q.0 (order_of f b g e c d (from + x.size) to q.1 h.2)
