-- Extents and gaps cover a sound block.
use Rattle.std.proofs.Common.{◌≡◌, ℕ, ◌<◌, ◌≤◌, ◌⊎◌, List, [], ◌∷◌, refl, subst, inl, inr, arith}
use Rattle.std.specs.Prelude.{All, Contains}
use Rattle.std.proofs.lemmas.Bool.{cases_lt}
use Rattle.std.proofs.lemmas.List.Elements.{All-nil, All-cons, All-weaker, All-contains}
use Rattle.gpu_block_pieces.specs.FreeList.{Extent, FreeList, IsGap}
use Rattle.gpu_block_pieces.specs.Laws.{IsSound, IsCovered}
use Rattle.gpu_block_pieces.proofs.Live.{here, there}
use Rattle.gpu_block_pieces.proofs.Separation.{within_of}

-- the widest room round a place that no extent of the list holds
record Room (p size : ℕ) (xs : List Extent) : Type 0 where
  start : ℕ
  end : ℕ
  low : start ≤ p
  high : p < end
  inside : end ≤ size
  meets_none : All (λ (x : Extent). (x.end ≤ start) ⊎ (end ≤ x.start)) xs
  starts : (start ≡ 0) ⊎ ((x : Extent) × Contains xs x × (x.end ≡ start))
  ends : (end ≡ size) ⊎ ((x : Extent) × Contains xs x × (x.start ≡ end))

abbrev Held : ℕ → List Extent → Type 0
Held p xs = (x : Extent) × Contains xs x × ((x.start ≤ p) × (p < x.end))

still : (x : Extent) (xs : List Extent) (P : Extent → Type 0) → (y : Extent) × Contains xs y × P y → (y : Extent) × Contains (x ∷ xs) y × P y
still x xs P w = (w.0, there x w.0 xs w.1, w.2)

still_or : (x : Extent) (xs : List Extent) (Q : Type 0) (P : Extent → Type 0) → Q ⊎ ((y : Extent) × Contains xs y × P y) → Q ⊎ ((y : Extent) × Contains (x ∷ xs) y × P y)
still_or x xs Q P w = elim w [ inl q ↦ inl q | inr v ↦ inr (still x xs P v) ]

-- the room ends at x, or does not reach it
up_to : (p size : ℕ) (x : Extent) (xs : List Extent) → Room p size xs → p < x.start → Room p size (x ∷ xs)
up_to p size x xs r before =
    let s = r.start in let e = r.end in
    let inside = r.inside in
    elim (cases_lt x.start e) [
      | inl lt ↦ record {
        start = s;
        end = x.start;
        low = r.low;
        high = before;
        inside = omega arith;
        meets_none = All-cons (λ (y : Extent). (y.end ≤ s) ⊎ (x.start ≤ y.start)) x xs (inr (omega arith))
            (All-weaker (λ (y : Extent). (y.end ≤ s) ⊎ (e ≤ y.start)) (λ (y : Extent). (y.end ≤ s) ⊎ (x.start ≤ y.start)) (λ y h. elim h [ inl a ↦ inl a | inr a ↦ inr (omega arith) ]) xs
            r.meets_none);
        starts = still_or x xs (s ≡ 0) (λ y. y.end ≡ s) r.starts;
        ends = inr (x, here x xs, refl);
      }
      | inr ge ↦ record {
        start = s;
        end = e;
        low = r.low;
        high = r.high;
        inside = inside;
        meets_none = All-cons (λ (y : Extent). (y.end ≤ s) ⊎ (e ≤ y.start)) x xs (inr ge) r.meets_none;
        starts = still_or x xs (s ≡ 0) (λ y. y.end ≡ s) r.starts;
        ends = still_or x xs (e ≡ size) (λ y. y.start ≡ e) r.ends;
      }
    ]

-- the room starts at x's end, or above it
from_end : (p size : ℕ) (x : Extent) (xs : List Extent) → Room p size xs → x.end ≤ p → Room p size (x ∷ xs)
from_end p size x xs r behind =
    let s = r.start in let e = r.end in
    elim (cases_lt s x.end) [
      | inl lt ↦ record {
        start = x.end;
        end = e;
        low = behind;
        high = r.high;
        inside = r.inside;
        meets_none = All-cons (λ (y : Extent). (y.end ≤ x.end) ⊎ (e ≤ y.start)) x xs (inl (omega arith))
            (All-weaker (λ (y : Extent). (y.end ≤ s) ⊎ (e ≤ y.start)) (λ (y : Extent). (y.end ≤ x.end) ⊎ (e ≤ y.start)) (λ y h. elim h [ inl a ↦ inl (omega arith) | inr a ↦ inr a ]) xs r.meets_none);
        starts = inr (x, here x xs, refl);
        ends = still_or x xs (e ≡ size) (λ y. y.start ≡ e) r.ends;
      }
      | inr ge ↦ record {
        start = s;
        end = e;
        low = r.low;
        high = r.high;
        inside = r.inside;
        meets_none = All-cons (λ (y : Extent). (y.end ≤ s) ⊎ (e ≤ y.start)) x xs (inl ge) r.meets_none;
        starts = still_or x xs (s ≡ 0) (λ y. y.end ≡ s) r.starts;
        ends = still_or x xs (e ≡ size) (λ y. y.start ≡ e) r.ends;
      }
    ]

held_or_room : (p size : ℕ) (xs : List Extent) → p < size → Held p xs ⊎ Room p size xs
held_or_room p size [] lt =
    inr (record {
      start = 0;
      end = size;
      low = omega arith;
      high = lt;
      inside = omega arith;
      meets_none = All-nil (λ (x : Extent). (x.end ≤ 0) ⊎ (size ≤ x.start));
      starts = inl refl;
      ends = inl refl;
    })
held_or_room p size (x ∷ xs) lt =
    elim (held_or_room p size xs lt) [
      | inl h ↦ inl (still x xs (λ y. (y.start ≤ p) × (p < y.end)) h)
      | inr r ↦ elim (cases_lt p x.start) [
        | inl before ↦ inr (up_to p size x xs r before)
        | inr at ↦ elim (cases_lt p x.end) [
          | inl in' ↦ inl (x, here x xs, (at, in'))
          | inr behind ↦ inr (from_end p size x xs r behind)
        ]
      ]
    ]

-- ---- two gaps

module _ (b : FreeList) (sound : IsSound b) where
  -- a gap that begins above another begins above its end
  behind : (s e t u : ℕ) → IsGap b s e → IsGap b t u → s < t → e < t
  behind s e t u gap other lt =
      elim other.starts [
        | inl z ↦ omega arith
        | inr w ↦
            let x = w.0 in
            let in_block = within_of b x sound w.1 in
            let x0 = in_block.0 in let x1 = in_block.1 in
            let end : x.end ≡ t = w.2 in
            elim (All-contains (λ (y : Extent). (y.end ≤ s) ⊎ (e ≤ y.start)) b.extents x gap.meets_none w.1) [
              | inl a ↦ omega arith
              | inr a ↦ omega arith
            ]
      ]

  -- a gap ends where another that begins with it does
  same_end : (s e u : ℕ) → IsGap b s e → IsGap b s u → e < u → ⊥
  same_end s e u gap other lt =
      let some = gap.nonempty in let inside = other.inside in
      elim gap.ends [
        | inl z ↦ omega arith
        | inr w ↦
            let x = w.0 in
            let in_block = within_of b x sound w.1 in
            let x0 = in_block.0 in let x1 = in_block.1 in
            let start : x.start ≡ e = w.2 in
            elim (All-contains (λ (y : Extent). (y.end ≤ s) ⊎ (u ≤ y.start)) b.extents x other.meets_none w.1) [
              | inl a ↦ omega arith
              | inr a ↦ omega arith
            ]
      ]

  gaps_apart : (s e t u : ℕ) → IsGap b s e → IsGap b t u → ((s ≡ t) × (e ≡ u)) ⊎ ((e < t) ⊎ (u < s))
  gaps_apart s e t u gap other =
      elim (cases_lt s t) [
        | inl lt ↦ inr (inl (behind s e t u gap other lt))
        | inr ge ↦ elim (cases_lt t s) [
          | inl gt ↦ inr (inr (behind t u s e other gap gt))
          | inr le ↦
              let same : t ≡ s = omega arith in
              let here' : IsGap b s u = subst (λ k. IsGap b k u) same other in
              elim (cases_lt e u) [
                | inl l ↦ absurd (same_end s e u gap here' l)
                | inr g ↦ elim (cases_lt u e) [
                  | inl l ↦ absurd (same_end s u e here' gap l)
                  | inr h ↦ inl (omega arith, omega arith)
                ]
              ]
        ]
      ]

  pub sound_covered : IsCovered b
  sound_covered = record {
    all = λ p lt. elim (held_or_room p b.size b.extents lt) [
      | inl h ↦ inl h
      | inr r ↦
          let l = r.low in let h = r.high in
          inr (r.start, r.end, record { nonempty = omega arith; inside = r.inside; meets_none = r.meets_none; starts = r.starts; ends = r.ends }, l, h)
    ];
    extents = sound.apart;
    beside = λ x s e held gap. All-contains (λ (y : Extent). (y.end ≤ s) ⊎ (e ≤ y.start)) b.extents x gap.meets_none held;
    gaps = gaps_apart;
  }
