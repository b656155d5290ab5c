-- A list of the numbers that have a property, ascending.
use Rattle.std.proofs.Common.{◌≡◌, ◌∙◌, ap, subst, ℕ, ◌+◌, ◌<◌, ◌↔◌, inl, inr, List, [], ◌∷◌, ◌++◌, length, get_or, length-append, arith}
use Rattle.std.specs.Prelude.{Contains}
use Rattle.std.specs.List.Sorted.{IsStrictlyIncreasing}
use Rattle.std.proofs.Math.ListN.{get_or-append}
use Rattle.std.proofs.Math.Seq.{get_or-append_seam}
use Rattle.std.proofs.lemmas.Bool.{cases_lt}
use Rattle.std.proofs.lemmas.List.Elements.{Contains-get_or, Contains-append_left, Contains-push, Contains-push_cases}

-- those below n
pub record Lists (P : ℕ → Type 0) (n : ℕ) (found : List ℕ) : Type 0 where
  pub ascending : IsStrictlyIncreasing found
  pub only : (i : ℕ) → Contains found i → (i < n) × P i
  pub all : (i : ℕ) → i < n → P i → Contains found i

pub lists_none : (P : ℕ → Type 0) → Lists P 0 []
lists_none P = record {
  ascending = λ k lt. absurd (omega arith);
  only = λ i c. let lt = c.1 in absurd (omega arith);
  all = λ i lt p. absurd (omega arith);
}

pub lists_more : (P : ℕ → Type 0) (n : ℕ) (found : List ℕ) → P n → Lists P n found → Lists P (n + 1) (found ++ (n ∷ []))
lists_more P n found p l =
    let long : length (found ++ (n ∷ [])) ≡ length found + 1 = length-append found (n ∷ []) in
    record {
      ascending = λ k lt. elim (cases_lt (k + 1) (length found)) [
        | inl inside ↦ rw (get_or-append found (n ∷ []) 0 k (omega arith), get_or-append found (n ∷ []) 0 (k + 1) inside) (l.ascending k inside)
        | inr end ↦
            let last : k + 1 ≡ length found = omega arith in
            let here : get_or (found ++ (n ∷ [])) (k + 1) 0 ≡ n = ap (λ (j : ℕ). get_or (found ++ (n ∷ [])) j 0) last ∙ get_or-append_seam found n [] 0 in
            let before : get_or (found ++ (n ∷ [])) k 0 ≡ get_or found k 0 = get_or-append found (n ∷ []) 0 k (omega arith) in
            let low = (l.only (get_or found k 0) (Contains-get_or found k 0 (omega arith))).0 in
            omega (arith, here, before, low)
      ];
      only = λ i c. elim (Contains-push_cases found n i c) [
        | inl old ↦ let o = l.only i old in let lt = o.0 in (omega arith, o.1)
        | inr new ↦ (omega arith, subst P new p)
      ];
      all = λ i lt pi. elim (cases_lt i n) [
        | inl old ↦ Contains-append_left found (n ∷ []) i (l.all i old pi)
        | inr new ↦ let e : n ≡ i = omega arith in subst (λ (j : ℕ). Contains (found ++ (n ∷ [])) j) e (Contains-push found n)
      ];
    }

pub lists_same : (P : ℕ → Type 0) (n : ℕ) (found : List ℕ) → (P n → ⊥) → Lists P n found → Lists P (n + 1) found
lists_same P n found not l = record {
  ascending = l.ascending;
  only = λ i c. let o = l.only i c in let lt = o.0 in (omega arith, o.1);
  all = λ i lt p. elim (cases_lt i n) [
    | inl old ↦ l.all i old p
    | inr new ↦ let e : i ≡ n = omega arith in absurd (not (subst P e p))
  ];
}

pub lists_is : (P : ℕ → Type 0) (n m : ℕ) (found : List ℕ) → n ≡ m → Lists P n found → IsStrictlyIncreasing found × ((i : ℕ) → Contains found i ↔ ((i < m) × P i))
lists_is P n m found all l =
    let at : Lists P m found = subst (λ (k : ℕ). Lists P k found) all l in
    (at.ascending, λ i. (λ c. at.only i c, λ h. at.all i h.0 h.1))
