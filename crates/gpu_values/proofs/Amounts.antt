-- An amount of bytes has one text.
use Rattle.std.proofs.Common.{◌≡◌, ℕ, ◌+◌, ◌*◌, ◌/◌, ◌-◌, ◌^◌, ◌<◌, ◌≤◌, List, ◌++◌, sym, ap, ◌∙◌, inl, inr, arith, codes}
use Rattle.std.proofs.lemmas.Bool.{cases_lt}
use Rattle.std.proofs.Math.Nat.{pow-le-pow_right}
use Rattle.gpu_values.specs.Bytes.{IsNearest, IsDivided, IsBytesText, hundredths_text, unit_text}

-- the lesser of two is not the nearest too
not_less : (n h i : ℕ) → IsNearest n 1024 h → IsNearest n 1024 i → h < i → ⊥
not_less n h i x y lt =
    let a = x.below in let b = y.above in
    let next : i ≡ h + 1 = omega arith in
    let tie : 2 * n ≡ (2 * h + 1) * 1024 = omega arith in
    let up : 2 * i * 1024 ≡ 2 * n + 1024 = omega arith in
    let e = x.even (inl tie) in let f = y.even (inr up) in
    omega arith

nearest_once : (n h i : ℕ) → IsNearest n 1024 h → IsNearest n 1024 i → h ≡ i
nearest_once n h i x y =
    elim (cases_lt h i) [
      | inl lt ↦ absurd (not_less n h i x y lt)
      | inr ge ↦ elim (cases_lt i h) [ inl lt ↦ absurd (not_less n i h y x lt) | inr le ↦ omega arith ]
    ]

between : (n a b : ℕ) → n < a → a ≤ b → b ≤ n → ⊥
between n a b p q r = omega arith

not_fewer : (n k j m l : ℕ) → IsDivided n k m → IsDivided n j l → k < j → ⊥
not_fewer n k j m l x y lt =
    between n (1024 ^ (k + 1)) (1024 ^ j) x.often.1 (pow-le-pow_right {n = 1024} (omega arith) {i = k + 1} {j = j} (omega arith)) y.often.0

divided_once : (n k j m l : ℕ) → IsDivided n k m → IsDivided n j l → k ≡ j
divided_once n k j m l x y =
    elim (cases_lt k j) [
      | inl lt ↦ absurd (not_fewer n k j m l x y lt)
      | inr ge ↦ elim (cases_lt j k) [ inl lt ↦ absurd (not_fewer n j k l m y x lt) | inr le ↦ omega arith ]
    ]

pub one_text : (n : ℕ) (s t : List ℕ) → IsBytesText n s → IsBytesText n t → s ≡ t
one_text n s t x y =
    elim x [
      | inl a ↦ elim y [
        | inl b ↦ a.1 ∙ sym b.1
        | inr b ↦ (let lt = a.0 in let ge = b.3 in absurd (omega arith))
      ]
      | inr a ↦ elim y [
        | inl b ↦ (let lt = b.0 in let ge = a.3 in absurd (omega arith))
        | inr b ↦
            let k = divided_once n a.0 b.0 a.1 b.1 a.4 b.4 in
            let m : a.1 ≡ b.1 = a.4.last ∙ (ap (λ i. n / 1024 ^ (i - 1)) k ∙ sym b.4.last) in
            let near : IsNearest (100 * b.1) 1024 a.2 = rw (← m) a.5 in
            let h = nearest_once (100 * b.1) a.2 b.2 near b.5 in
            a.6 ∙ (ap (λ i. hundredths_text i ++ (codes " " ++ unit_text a.0)) h ∙ (ap (λ i. hundredths_text b.2 ++ (codes " " ++ unit_text i)) k ∙ sym b.6))
      ]
    ]
