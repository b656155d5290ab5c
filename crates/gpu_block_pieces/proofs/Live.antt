-- Which pieces are live after a take and after a release.
use Rattle.std.proofs.Common.{◌≡◌, ◌≢◌, ℕ, suc, ◌+◌, ◌≤◌, ◌⊎◌, List, [], ◌∷◌, refl, sym, ap, ◌∙◌, subst, inl, inr, arith, Bool, true, false, cond, ltb, eqb}
use Rattle.std.specs.Prelude.{All, Contains, filter, not}
use Rattle.std.proofs.lemmas.List.Elements.{All-nil, All-cons, All-weaker, All-contains, All-contains_itself}
use Rattle.gpu_block_pieces.specs.FreeList.{Extent, FreeList, SomeExtent}
use Rattle.gpu_block_pieces.specs.Request.{Request}
use Rattle.gpu_block_pieces.specs.Changes.{placed, Takes, Releases}
use Rattle.gpu_block_pieces.specs.Laws.{IsSound}
use Rattle.gpu_block_pieces.proofs.OrderedLists.{eq_false}
use Rattle.gpu_block_pieces.proofs.Separation.{within_of}

-- ---- elements of edited lists

pub here : {X : Type 0} (x : X) (xs : List X) → Contains (x ∷ xs) x
here x xs = (0, omega arith, refl)

pub there : {X : Type 0} (y x : X) (xs : List X) → Contains xs x → Contains (y ∷ xs) x
there y x xs h = (suc h.0, (let l = h.1 in omega arith), h.2)

placed_added : {X : Type 0} (key : X → ℕ) (x : X) (xs : List X) → Contains (placed key x xs) x
placed_added key x [] = here x []
placed_added key x (y ∷ ys) =
    elim (ltb (key y) (key x)) as (λ b. Contains (cond b (y ∷ placed key x ys) (x ∷ y ∷ ys)) x) [
      | true ↦ there y x (placed key x ys) (placed_added key x ys)
      | false ↦ here x (y ∷ ys)
    ]

placed_keeps : {X : Type 0} (key : X → ℕ) (x : X) (xs : List X) → All (Contains (placed key x xs)) xs
placed_keeps key x [] = All-nil (Contains (placed key x []))
placed_keeps key x (y ∷ ys) =
    elim (ltb (key y) (key x)) as (λ b. All (Contains (cond b (y ∷ placed key x ys) (x ∷ y ∷ ys))) (y ∷ ys)) [
      | true ↦ All-cons (Contains (y ∷ placed key x ys)) y ys (here y (placed key x ys))
          (All-weaker (Contains (placed key x ys)) (Contains (y ∷ placed key x ys)) (λ z q. there y z (placed key x ys) q) ys (placed_keeps key x ys))
      | false ↦ All-weaker (Contains (y ∷ ys)) (Contains (x ∷ y ∷ ys)) (λ z q. there x z (y ∷ ys) q) (y ∷ ys) (All-contains_itself (y ∷ ys))
    ]

filter_keeps : {X : Type 0} (p : X → Bool) (xs : List X) → All (λ z. p z ≡ true → Contains (filter p xs) z) xs
filter_keeps p [] = All-nil (λ z. p z ≡ true → Contains (filter p []) z)
filter_keeps p (y ∷ ys) =
    All-cons (λ z. p z ≡ true → Contains (filter p (y ∷ ys)) z) y ys (λ h. subst (λ b. Contains (cond b (y ∷ filter p ys) (filter p ys)) y) (sym h) (here y (filter p ys)))
    (All-weaker (λ z. p z ≡ true → Contains (filter p ys) z) (λ z. p z ≡ true → Contains (filter p (y ∷ ys)) z) (λ z q h.
    elim (p y) as (λ b. Contains (cond b (y ∷ filter p ys) (filter p ys)) z) [ true ↦ there y z (filter p ys) (q h) | false ↦ q h ]) ys (filter_keeps p ys))

-- ---- a take

abbrev pub piece_of : (old : FreeList) (r : Request) (o n : ℕ) (new : FreeList) → Takes old r o n new → Extent
piece_of old r o n new t = record { start = t.start; offset = o; end = o + r.size; kind = r.kind; chunk_id = n; name = r.name; word = 0 }

pub takes_keeps : (old : FreeList) (r : Request) (o n : ℕ) (new : FreeList) → Takes old r o n new → (x : Extent) → Contains old.extents x → Contains new.extents x
takes_keeps old r o n new t x h =
    let xs = placed (λ y. y.start) (piece_of old r o n new t) old.extents in
    subst (λ (ys : List Extent). Contains ys x) (sym t.extent) (All-contains (Contains xs) old.extents x (placed_keeps (λ y. y.start) (piece_of old r o n new t) old.extents) h)

pub piece_held : (old : FreeList) (r : Request) (o n : ℕ) (new : FreeList) → (t : Takes old r o n new) → Contains new.extents (piece_of old r o n new t)
piece_held old r o n new t = subst (λ (ys : List Extent). Contains ys (piece_of old r o n new t)) (sym t.extent) (placed_added (λ y. y.start) (piece_of old r o n new t) old.extents)

pub takes_adds : (old : FreeList) (r : Request) (o n : ℕ) (new : FreeList) → Takes old r o n new → SomeExtent new (λ x. x.chunk_id ≡ n)
takes_adds old r o n new t = (piece_of old r o n new t, piece_held old r o n new t, refl)

pub takes_new_chunk_id : (old : FreeList) (r : Request) (o n : ℕ) (new : FreeList) → IsSound old → IsSound new → Takes old r o n new → SomeExtent old (λ x. x.chunk_id ≡ n) → ⊥
takes_new_chunk_id old r o n new before after t w =
    let x = w.0 in
    let same : x ≡ piece_of old r o n new t = after.one_number x (piece_of old r o n new t) (takes_keeps old r o n new t x w.1) (piece_held old r o n new t) w.2 in
    let start : x.start ≡ t.start = ap (λ y. y.start) same in
    let in_block = within_of old x before w.1 in
    let low = in_block.0 in let high = in_block.1 in
    let some = t.chosen.fits.gap.nonempty in
    elim (All-contains (λ (y : Extent). (y.end ≤ t.start) ⊎ (t.end ≤ y.start)) old.extents x t.chosen.fits.gap.meets_none w.1) [
      | inl a ↦ omega arith
      | inr a ↦ omega arith
    ]

-- ---- a release

pub releases_keeps : (old : FreeList) (n : ℕ) (new : FreeList) → IsSound old → Releases old n new → (x : Extent) → Contains old.extents x → x.chunk_id ≢ n → Contains new.extents x
releases_keeps old n new sound t x h ne =
    let p : Extent → Bool = λ y. not (eqb y.start t.gone.start) in
    let in_x = within_of old x sound h in let x0 = in_x.0 in let x1 = in_x.1 in
    let in_gone = within_of old t.gone sound t.held in let g0 = in_gone.0 in let g1 = in_gone.1 in
    let elsewhere : x.start ≢ t.gone.start = λ e.
    elim (sound.apart x t.gone h t.held) [
      | inl same ↦ ne (ap (λ y. y.chunk_id) same ∙ t.numbered)
      | inr sides ↦ elim sides [ inl before ↦ omega arith | inr behind ↦ omega arith ]
    ] in
    subst (λ (ys : List Extent). Contains ys x) (sym t.extents)
    (All-contains (λ z. p z ≡ true → Contains (filter p old.extents) z) old.extents x (filter_keeps p old.extents) h (ap not (eq_false x.start t.gone.start elsewhere)))
