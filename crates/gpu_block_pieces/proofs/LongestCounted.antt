-- The longest of the gaps that are counted is the block's longest gap.
use Rattle.std.proofs.Common.{◌≡◌, ◌∙◌, ℕ, zero, suc, ◌-◌, ◌<◌, ◌≤◌, ◌⊎◌, List, [], ◌∷◌, ◌++◌, length, get_or, refl, sym, ap, inl, inr, arith, true, false}
use Rattle.std.specs.Prelude.{All, Contains, max, nat_lt}
use Rattle.std.proofs.Math.Nat.{max-eq_left, max-eq_right, le-max_left, le-max_right}
use Rattle.std.proofs.lemmas.List.Elements.{All-nil, All-cons, All-tail, All-weaker, All-contains}
use Rattle.std.proofs.lemmas.Bool.{cases_lt}
use Rattle.std.proofs.lemmas.Bool.Decides.{nat_tests}
use Rattle.gpu_block_pieces.specs.FreeList.{Extent, FreeList, IsLongestGap}
use Rattle.gpu_block_pieces.specs.Pieces.{LieBetween, gap_between, gaps_between, longest}

-- ---- the length of the longest

gap_some : (a b : ℕ) → a < b → gap_between a b ≡ (a, b) ∷ []
gap_some a b lt = let t : nat_lt a b ≡ true = grind (arith, nat_tests) in rw t refl

gap_none : (a b : ℕ) → b ≤ a → gap_between a b ≡ []
gap_none a b le = let t : nat_lt a b ≡ false = grind (arith, nat_tests) in rw t refl

longest_before : (a b : ℕ) (gaps : List (ℕ × ℕ)) → longest (gap_between a b ++ gaps) ≡ max (b - a) (longest gaps)
longest_before a b gaps =
    elim (cases_lt a b) [
      | inl lt ↦ ap (λ (one : List (ℕ × ℕ)). longest (one ++ gaps)) (gap_some a b lt)
      | inr le ↦ ap (λ (one : List (ℕ × ℕ)). longest (one ++ gaps)) (gap_none a b le) ∙ sym (max-eq_right (omega arith))
    ]

longest_one : (a b : ℕ) → longest (gap_between a b) ≡ b - a
longest_one a b =
    elim (cases_lt a b) [
      | inl lt ↦ ap longest (gap_some a b lt) ∙ max-eq_left (omega arith)
      | inr le ↦ ap longest (gap_none a b le) ∙ omega arith
    ]

-- ---- the gaps beside extents that lie in [from, to)

record GapIn (from : ℕ) (xs : List Extent) (to start end : ℕ) : Type 0 where
  low : from ≤ start
  nonempty : start < end
  high : end ≤ to
  apart : All (λ x. (x.end ≤ start) ⊎ (end ≤ x.start)) xs
  starts : (start ≡ from) ⊎ ((x : Extent) × Contains xs x × (x.end ≡ start))
  ends : (end ≡ to) ⊎ ((x : Extent) × Contains xs x × (x.start ≡ end))

abbrev LiesIn : ℕ → ℕ → Extent → Type 0
LiesIn from to x = (from ≤ x.start) × (x.start < x.end) × (x.end ≤ to)

ends_within : (from to : ℕ) (xs : List Extent) → LieBetween from xs to → from ≤ to
ends_within from to [] h = h
ends_within from to (x ∷ xs) h = let r = ends_within x.end to xs h.3 in omega (arith, h.0, h.1, h.2)

all_within : (from to : ℕ) (xs : List Extent) → LieBetween from xs to → All (LiesIn from to) xs
all_within from to [] h = All-nil (LiesIn from to)
all_within from to (x ∷ xs) h =
    let r = ends_within x.end to xs h.3 in
    All-cons (LiesIn from to) x xs (h.0, omega (arith, h.1, h.2), r)
    (All-weaker (LiesIn x.end to) (LiesIn from to) (λ y q. (omega (arith, q.0, h.0, h.1, h.2), q.1, q.2)) xs (all_within x.end to xs h.3))

held_here : (x : Extent) (xs : List Extent) → Contains (x ∷ xs) x
held_here x xs = (0, omega arith, refl)

held_later : (x y : Extent) (xs : List Extent) → Contains xs y → Contains (x ∷ xs) y
held_later x y xs h = (suc h.0, (let l = h.1 in omega arith), h.2)

held_cases : (x y : Extent) (xs : List Extent) (i : ℕ) → i < length (x ∷ xs) → get_or (x ∷ xs) i y ≡ y → (x ≡ y) ⊎ Contains xs y
held_cases x y xs zero lt e = inl e
held_cases x y xs (suc i) lt e = inr (i, omega arith, e)

-- no gap is longer
bounds : (from to start end : ℕ) (xs : List Extent) → LieBetween from xs to → GapIn from xs to start end → end - start ≤ longest (gaps_between from xs to)
bounds from to start end [] h g =
    let e = longest_one from to in
    let low = g.low in
    let high = g.high in
    omega arith
bounds from to start end (x ∷ xs) h g =
    let e = longest_before from x.start (gaps_between x.end xs to) in
    let low = g.low in
    let high = g.high in
    let some = g.nonempty in
    let before = All-contains (λ y. (y.end ≤ start) ⊎ (end ≤ y.start)) (x ∷ xs) x g.apart (held_here x xs) in
    elim before [
      | inl past ↦
          let r = bounds x.end to start end xs h.3 (record {
            low = past;
            nonempty = some;
            high = high;
            apart = All-tail (λ y. (y.end ≤ start) ⊎ (end ≤ y.start)) x xs g.apart;
            starts = elim g.starts [
              | inl is ↦ absurd (omega (arith, h.0, h.1, h.2))
              | inr held ↦ elim (held_cases x held.0 xs held.1.0 held.1.1 held.1.2) [
                | inl same ↦ inl (sym held.2 ∙ ap (λ y. y.end) (sym same))
                | inr later ↦ inr (held.0, later, held.2)
              ]
            ];
            ends = elim g.ends [
              | inl is ↦ inl is
              | inr held ↦ elim (held_cases x held.0 xs held.1.0 held.1.1 held.1.2) [
                | inl same ↦ (let s : x.start ≡ end = ap (λ y. y.start) same ∙ held.2 in absurd (omega (arith, h.1, h.2)))
                | inr later ↦ inr (held.0, later, held.2)
              ]
            ];
          }) in
          let m = le-max_right (x.start - from) (longest (gaps_between x.end xs to)) in
          omega arith
      | inr ahead ↦
          let m = le-max_left (x.start - from) (longest (gaps_between x.end xs to)) in
          omega arith
    ]

-- and where there is one, one is that long
reached : (from to : ℕ) (xs : List Extent) → LieBetween from xs to → 0 < longest (gaps_between from xs to)
    → (start : ℕ) × (end : ℕ) × GapIn from xs to start end × (end - start ≡ longest (gaps_between from xs to))
reached from to [] h some =
    let e = longest_one from to in (
      from,
      to,
      record {
        low = omega arith;
        nonempty = omega arith;
        high = omega arith;
        apart = All-nil (λ x. (x.end ≤ from) ⊎ (to ≤ x.start));
        starts = inl refl;
        ends = inl refl;
      },
      sym e,
    )
reached from to (x ∷ xs) h some =
    let rest = longest (gaps_between x.end xs to) in
    let e = longest_before from x.start (gaps_between x.end xs to) in
    let to_end = ends_within x.end to xs h.3 in
    elim (cases_lt (x.start - from) rest) [
      | inl lt ↦
          let m : max (x.start - from) rest ≡ rest = max-eq_right (omega arith) in
          let r = reached x.end to xs h.3 (omega arith) in
          let g = r.2 in
          let low = g.low in (
            r.0,
            r.1,
            record {
              low = omega (arith, h.0, h.1, h.2);
              nonempty = g.nonempty;
              high = g.high;
              apart = All-cons (λ y. (y.end ≤ r.0) ⊎ (r.1 ≤ y.start)) x xs (inl low) g.apart;
              starts = elim g.starts [
                | inl is ↦ inr (x, held_here x xs, sym is)
                | inr held ↦ inr (held.0, held_later x held.0 xs held.1, held.2)
              ];
              ends = elim g.ends [
                | inl is ↦ inl is
                | inr held ↦ inr (held.0, held_later x held.0 xs held.1, held.2)
              ];
            },
            r.3 ∙ sym (e ∙ m),
          )
      | inr ge ↦
          let m : max (x.start - from) rest ≡ x.start - from = max-eq_left ge in (
            from,
            x.start,
            record {
              low = omega arith;
              nonempty = omega arith;
              high = omega (arith, h.1, h.2);
              apart = All-cons (λ y. (y.end ≤ from) ⊎ (x.start ≤ y.start)) x xs (inr (omega arith))
                  (All-weaker (LiesIn x.end to) (λ y. (y.end ≤ from) ⊎ (x.start ≤ y.start)) (λ y q. inr (omega (arith, q.0, h.1, h.2))) xs (all_within x.end to xs h.3));
              starts = inl refl;
              ends = inr (x, held_here x xs, refl);
            },
            sym (e ∙ m),
          )
    ]

pub longest_counted : (b : FreeList) (n : ℕ) → LieBetween 0 b.extents b.size → IsLongestGap b n → n ≡ longest (gaps_between 0 b.extents b.size)
longest_counted b n h l =
    let counted = longest (gaps_between 0 b.extents b.size) in
    let above : n ≤ counted = elim (cases_lt 0 n) [
      | inl some ↦
          let r = l.reached some in
          let g = r.2 in
          let m = bounds 0 b.size r.0 r.1 b.extents h (record { low = omega arith; nonempty = g.nonempty; high = g.inside; apart = g.meets_none; starts = g.starts; ends = g.ends }) in
          omega (arith, r.3)
      | inr none ↦ omega arith
    ] in
    let below : counted ≤ n = elim (cases_lt 0 counted) [
      | inl some ↦
          let r = reached 0 b.size b.extents h some in
          let g = r.2 in
          let m = l.bound r.0 r.1 (record { nonempty = g.nonempty; inside = g.high; meets_none = g.apart; starts = g.starts; ends = g.ends }) in
          omega (arith, r.3)
      | inr none ↦ omega arith
    ] in
    omega arith
