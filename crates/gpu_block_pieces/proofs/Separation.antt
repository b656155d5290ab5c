-- Page separation for all pairs, from the rule on the two neighbours.
use Rattle.std.proofs.Common.{◌≡◌, ◌≢◌, ℕ, ◌+◌, ◌-◌, ◌<◌, ◌≤◌, ◌⊎◌, List, [], ◌∷◌, refl, sym, ap, ◌∙◌, subst, inl, inr, arith, Bool, true, false, cond, ltb, eqb}
use Rattle.std.specs.Prelude.{All, Contains, filter, not}
use Rattle.std.proofs.lemmas.Bool.{cases_lt}
use Rattle.std.proofs.lemmas.List.Elements.{All-cons, All-head, All-tail, All-weaker, All-contains, All-contains_itself, All-filter}
use Rattle.gpu_values.specs.declared.allocation_type.AllocationType.{AllocationType}
use Rattle.gpu_values.specs.declared.allocation_type.AllocationType.TheVariants.{Free, Linear, NonLinear}
use Rattle.gpu_block_pieces.specs.FreeList.{Extent, FreeList}
use Rattle.gpu_block_pieces.specs.Request.{Request}
use Rattle.gpu_block_pieces.specs.Place.{page, RequestFits}
use Rattle.gpu_block_pieces.specs.Changes.{placed, Takes, Releases}
use Rattle.gpu_block_pieces.specs.Laws.{IsSound, IsPageSeparated}
use Rattle.gpu_block_pieces.proofs.Pages.{page_mono}

pub same_or_not : (j k : AllocationType) → (j ≡ k) ⊎ (j ≢ k)
same_or_not Free Free = inl refl
same_or_not Free Linear = inr (λ e. cc)
same_or_not Free NonLinear = inr (λ e. cc)
same_or_not Linear Free = inr (λ e. cc)
same_or_not Linear Linear = inl refl
same_or_not Linear NonLinear = inr (λ e. cc)
same_or_not NonLinear Free = inr (λ e. cc)
same_or_not NonLinear Linear = inr (λ e. cc)
same_or_not NonLinear NonLinear = inl refl

all_placed : {X : Type 0} (P : X → Type 0) (key : X → ℕ) (x : X) (xs : List X) → P x → All P xs → All P (placed key x xs)
all_placed P key x [] p h = All-cons P x [] p h
all_placed P key x (y ∷ ys) p h =
    elim (ltb (key y) (key x)) as (λ b. All P (cond b (y ∷ placed key x ys) (x ∷ y ∷ ys))) [
      | true ↦ All-cons P y (placed key x ys) (All-head P y ys h) (all_placed P key x ys p (All-tail P y ys h))
      | false ↦ All-cons P x (y ∷ ys) p h
    ]

pub in_placed : {X : Type 0} (key : X → ℕ) (x y : X) (xs : List X) → Contains (placed key x xs) y → (y ≡ x) ⊎ Contains xs y
in_placed key x y xs h =
    All-contains (λ z. (z ≡ x) ⊎ Contains xs z) (placed key x xs) y
    (all_placed (λ z. (z ≡ x) ⊎ Contains xs z) key x xs (inl refl) (All-weaker (Contains xs) (λ z. (z ≡ x) ⊎ Contains xs z) (λ z q. inr q) xs (All-contains_itself xs))) h

pub in_filter : {X : Type 0} (p : X → Bool) (y : X) (xs : List X) → Contains (filter p xs) y → Contains xs y
in_filter p y xs h = All-contains (Contains xs) (filter p xs) y (All-filter p (Contains xs) xs (All-contains_itself xs)) h

pub within_of : (b : FreeList) (x : Extent) → IsSound b → Contains b.extents x → (x.start ≤ x.offset) × (x.offset < x.end) × (x.end ≤ b.size)
within_of b x s h = All-contains (λ y. (y.start ≤ y.offset) × (y.offset < y.end) × (y.end ≤ b.size)) b.extents x s.within h

-- ---- a piece at o in the gap from s to e, and an extent of another kind on either side

module _ (b : FreeList) (r : Request) (s e o : ℕ) (pos : 0 < b.granularity) (some : 0 < r.size) (sound : IsSound b) (apart : IsPageSeparated b) (fits : RequestFits b r s e o) where
  abbrev g : ℕ
  g = b.granularity

  after_left : (y : Extent) → Contains b.extents y → y.kind ≢ r.kind → y.end ≤ s → page g (y.end - 1) < page g o
  after_left y held ne le =
      let w = within_of b y sound held in
      let w0 = w.0 in let w1 = w.1 in
      let m = fits.between.begins.begins in
      let low = m.after in
      elim (cases_lt y.end s) [
        | inr ge ↦
            let same : y.end ≡ s = omega arith in
            let differ = m.apart (y, held, (ne, same)) in
            let up = page_mono g (s - 1) o pos (omega arith) in
            let here : page g (y.end - 1) ≡ page g (s - 1) = ap (λ k. page g (k - 1)) same in
            omega arith
        | inl lt ↦
            elim fits.gap.starts [
              | inl z ↦ omega arith
              | inr q ↦
                  let z = q.0 in
                  let zw = within_of b z sound q.1 in
                  let z0 = zw.0 in let z1 = zw.1 in
                  let end : z.end ≡ s = q.2 in
                  elim (same_or_not z.kind r.kind) [
                    | inr other ↦
                        let differ = m.apart (z, q.1, (other, end)) in
                        let up = page_mono g (s - 1) o pos (omega arith) in
                        let below = page_mono g (y.end - 1) (s - 1) pos (omega arith) in
                        omega arith
                    | inl same ↦
                        let ne2 : y.kind ≢ z.kind = λ q2. ne (q2 ∙ same) in
                        elim (sound.apart y z held q.1) [
                          | inl eq ↦ absurd (ne2 (ap (λ k. k.kind) eq))
                          | inr sides ↦ elim sides [
                            | inl before ↦
                                let one = apart y z held q.1 ne2 before in
                                let two = page_mono g z.offset o pos (omega arith) in
                                omega arith
                            | inr behind ↦ omega arith
                          ]
                        ]
                  ]
            ]
      ]

  before_right : (y : Extent) → Contains b.extents y → y.kind ≢ r.kind → e ≤ y.start → page g (o + r.size - 1) < page g y.offset
  before_right y held ne le =
      let w = within_of b y sound held in
      let w0 = w.0 in let w1 = w.1 in let w2 = w.2 in
      let inside = fits.between.inside in
      elim (cases_lt e y.start) [
        | inr ge ↦
            let same : y.start ≡ e = omega arith in
            let differ = fits.between.apart (y, held, (ne, same)) in
            let up = page_mono g (o + r.size - 1) e pos (omega arith) in
            let more = page_mono g e y.offset pos (omega arith) in
            omega arith
        | inl lt ↦
            elim fits.gap.ends [
              | inl z ↦ omega arith
              | inr q ↦
                  let z = q.0 in
                  let zw = within_of b z sound q.1 in
                  let z0 = zw.0 in let z1 = zw.1 in
                  let start : z.start ≡ e = q.2 in
                  elim (same_or_not z.kind r.kind) [
                    | inr other ↦
                        let differ = fits.between.apart (z, q.1, (other, start)) in
                        let up = page_mono g (o + r.size - 1) e pos (omega arith) in
                        let more = page_mono g e y.offset pos (omega arith) in
                        omega arith
                    | inl same ↦
                        let ne2 : z.kind ≢ y.kind = λ q2. ne (sym q2 ∙ same) in
                        elim (sound.apart z y q.1 held) [
                          | inl eq ↦ absurd (ne2 (ap (λ k. k.kind) eq))
                          | inr sides ↦ elim sides [
                            | inl before ↦
                                let one = apart z y q.1 held ne2 before in
                                let two = page_mono g (o + r.size - 1) (z.end - 1) pos (omega arith) in
                                omega arith
                            | inr behind ↦ omega arith
                          ]
                        ]
                  ]
            ]
      ]

-- ---- the steps keep it

pub takes_separated : (old : FreeList) (r : Request) (o n : ℕ) (new : FreeList) → 0 < old.granularity → 0 < r.size → IsSound old → IsPageSeparated old → Takes old r o n new → IsPageSeparated new
takes_separated old r o n new pos some sound apart t = λ x y hx hy ne le.
    let s = t.start in let e = t.end in
    let f = t.chosen.fits in
    let gap = f.gap in
    let low = f.between.begins.begins.after in
    let high = f.between.inside in
    let piece : Extent = record { start = s; offset = o; end = o + r.size; kind = r.kind; chunk_id = n; name = r.name; word = 0 } in
    let cx = in_placed (λ z. z.start) piece x old.extents (subst (λ (xs : List Extent). Contains xs x) t.extent hx) in
    let cy = in_placed (λ z. z.start) piece y old.extents (subst (λ (xs : List Extent). Contains xs y) t.extent hy) in
    subst (λ k. page k (x.end - 1) < page k y.offset) (sym t.same.1)
    (elim cx [
      | inl ex ↦ elim cy [
        | inl ey ↦ absurd (ne (ap (λ k. k.kind) (ex ∙ sym ey)))
        | inr oy ↦
            let k1 : x.kind ≡ r.kind = ap (λ k. k.kind) ex in
            let e1 : x.end ≡ o + r.size = ap (λ k. k.end) ex in
            let m = All-contains (λ (z : Extent). (z.end ≤ s) ⊎ (e ≤ z.start)) old.extents y gap.meets_none oy in
            let w = within_of old y sound oy in let w0 = w.0 in let w1 = w.1 in
            let far : e ≤ y.start = elim m [ inl a ↦ omega arith | inr a ↦ a ] in
            let res = before_right old r s e o pos some sound apart f y oy (λ q. ne (k1 ∙ sym q)) far in
            rw e1 res
      ]
      | inr ox ↦ elim cy [
        | inl ey ↦
            let k1 : y.kind ≡ r.kind = ap (λ k. k.kind) ey in
            let s1 : y.start ≡ s = ap (λ k. k.start) ey in
            let o1 : y.offset ≡ o = ap (λ k. k.offset) ey in
            let res = after_left old r s e o pos some sound apart f x ox (λ q. ne (q ∙ sym k1)) (omega arith) in
            rw o1 res
        | inr oy ↦ apart x y ox oy ne le
      ]
    ])

pub releases_separated : (old : FreeList) (n : ℕ) (new : FreeList) → IsPageSeparated old → Releases old n new → IsPageSeparated new
releases_separated old n new apart t = λ x y hx hy ne le.
    let ox = in_filter (λ z. not (eqb z.start t.gone.start)) x old.extents (subst (λ (xs : List Extent). Contains xs x) t.extents hx) in
    let oy = in_filter (λ z. not (eqb z.start t.gone.start)) y old.extents (subst (λ (xs : List Extent). Contains xs y) t.extents hy) in
    subst (λ k. page k (x.end - 1) < page k y.offset) (sym t.same.1) (apart x y ox oy ne le)
