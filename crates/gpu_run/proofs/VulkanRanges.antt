-- Bytes of a list after others were put over a range of it.
use Rattle.std.proofs.Common.{◌≡◌, ◌∙◌, ℕ, zero, suc, ◌+◌, ◌-◌, ◌<◌, ◌≤◌, List, [], ◌∷◌, ◌++◌, length, take, drop, Bool, true, refl, sym, ap, arith, inl, inr, length-take, length-drop, length-append}
use Rattle.std.specs.Prelude.{slice_get, if◌then◌else◌, nat_le, nat_lt, ◌&&◌}
use Rattle.std.proofs.lemmas.Bool.{cases_lt, cases_Bool}
use Rattle.std.proofs.lemmas.Bool.Decides.{nat_tests}
use Rattle.gpu_vulkan.proofs.Parts.{slice_get-take, slice_get-drop}
use Rattle.gpu_run.specs.VulkanSession.{overwritten}

slice_get-left : (xs ys : List ℕ) (i : ℕ) → i < length xs → slice_get (xs ++ ys) i ≡ slice_get xs i
slice_get-left [] ys i lt = absurd (omega arith)
slice_get-left (x ∷ xs) ys zero lt = refl
slice_get-left (x ∷ xs) ys (suc i) lt = slice_get-left xs ys i (omega arith)

slice_get-right : (xs ys : List ℕ) (i : ℕ) → length xs ≤ i → slice_get (xs ++ ys) i ≡ slice_get ys (i - length xs)
slice_get-right [] ys i le = let e : i ≡ i - 0 = omega arith in ap (slice_get ys) e
slice_get-right (x ∷ xs) ys zero le = absurd (omega arith)
slice_get-right (x ∷ xs) ys (suc i) le = let e : i - length xs ≡ suc i - suc (length xs) = omega arith in slice_get-right xs ys i (omega arith) ∙ ap (slice_get ys) e

pub length_put : (xs : List ℕ) (at : ℕ) (ws : List ℕ) → at + length ws ≤ length xs → length (overwritten xs at ws) ≡ length xs
length_put xs at ws le = simp (length-append, length-take, length-drop) (omega (arith, le))

-- whether an index lies in the range
abbrev pub lies_in : (at size i : ℕ) → Bool
lies_in at size i = nat_le at i && nat_lt i (at + size)

pub get_put : (xs : List ℕ) (s : ℕ) (ws : List ℕ) (i : ℕ) → s + length ws ≤ length xs → slice_get (overwritten xs s ws) i ≡
    (if nat_le s i && nat_lt i (s + length ws) then slice_get ws (i - s) else slice_get xs i)
get_put xs s ws i le =
    let front : length (take s xs) ≡ s = omega (arith, length-take s xs) in
    elim (cases_lt i s) [
      | inl below ↦
          let a : slice_get (overwritten xs s ws) i ≡ slice_get xs i = slice_get-left (take s xs) (ws ++ drop (s + length ws) xs) i (omega arith) ∙ slice_get-take s xs i below in
          grind (arith, nat_tests, a)
      | inr above ↦
          let a : slice_get (overwritten xs s ws) i ≡ slice_get (ws ++ drop (s + length ws) xs) (i - s) = slice_get-right (take s xs) (ws ++ drop (s + length ws) xs) i (omega arith) ∙ ap
          (λ k. slice_get (ws ++ drop (s + length ws) xs) (i - k)) front in
          elim (cases_lt (i - s) (length ws)) [
            | inl inside ↦ let b = slice_get-left ws (drop (s + length ws) xs) (i - s) inside in grind (arith, nat_tests, a, b)
            | inr past ↦
                let b : slice_get (ws ++ drop (s + length ws) xs) (i - s) ≡ slice_get xs i = slice_get-right ws (drop (s + length ws) xs) (i - s) past ∙
                (slice_get-drop (s + length ws) xs (i - s - length ws) ∙ (let e : s + length ws + (i - s - length ws) ≡ i = omega arith in ap (slice_get xs) e)) in
                grind (arith, nat_tests, a, b)
          ]
    ]

-- the same bytes over bytes that were the same where they were written
pub put_alike : (xs ys : List ℕ) (at : ℕ) (ws vs : List ℕ) (i : ℕ) → at + length ws ≤ length xs → at + length vs ≤ length ys → ws ≡ vs → (was : Bool) → (was ≡ true → slice_get xs i ≡ slice_get ys i)
    → (if nat_le at i && nat_lt i (at + length ws) then true else was) ≡ true → slice_get (overwritten xs at ws) i ≡ slice_get (overwritten ys at vs) i
put_alike xs ys at ws vs i le le2 same was old w =
    let a = get_put xs at ws i le in
    let b = get_put ys at vs i le2 in
    let n : length ws ≡ length vs = ap length same in
    let t : (nat_le at i && nat_lt i (at + length ws)) ≡ (nat_le at i && nat_lt i (at + length vs)) = ap (λ k. nat_le at i && nat_lt i (at + k)) n in
    let e : slice_get ws (i - at) ≡ slice_get vs (i - at) = ap (λ x. slice_get x (i - at)) same in
    elim (cases_Bool (nat_le at i && nat_lt i (at + length ws))) [
      | inl within ↦ a ∙ ap (λ x. if x then slice_get ws (i - at) else slice_get xs i) within ∙ e ∙ sym (b ∙ ap (λ x. if x then slice_get vs (i - at) else slice_get ys i) (sym t ∙ within))
      | inr out ↦
          let w2 : was ≡ true = sym (ap (λ x. if x then true else was) out) ∙ w in
          a ∙ ap (λ x. if x then slice_get ws (i - at) else slice_get xs i) out ∙ old w2 ∙ sym (b ∙ ap (λ x. if x then slice_get vs (i - at) else slice_get ys i) (sym t ∙ out))
    ]

pub length_range : (xs : List ℕ) (at len : ℕ) → at + len ≤ length xs → length (take len (drop at xs)) ≡ len
length_range xs at len le = simp (length-take, length-drop) (omega (arith, le))

pub get_range : (xs : List ℕ) (at len i : ℕ) → i < len → slice_get (take len (drop at xs)) i ≡ slice_get xs (at + i)
get_range xs at len i lt = slice_get-take len (drop at xs) i lt ∙ slice_get-drop at xs i
