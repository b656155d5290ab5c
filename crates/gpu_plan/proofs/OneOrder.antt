-- An order is one list: a key leads no key that leads it, and lists of the same numbers, each of which precedes the next, are equal.
use Rattle.std.proofs.Common.{◌≡◌, ◌∙◌, refl, sym, ap, subst, ℕ, suc, ◌+◌, ◌^◌, ◌<◌, ◌≤◌, inl, inr, cond, List, [], ◌∷◌, length, get_or, arith}
use Rattle.std.specs.Prelude.{sum_by}
use Rattle.std.specs.List.{range_with_len, AllByRecursion}
use Rattle.std.proofs.Math.Dec.{eqb}
use Rattle.std.proofs.Math.Nat.{pow-le-pow_right}
use Rattle.std.proofs.lemmas.Bool.{cases_eq, cases_order, eq-eqb, ne_eqb}
use Rattle.std.proofs.lemmas.List.Sums.{sum_by-cons}
use Rattle.std.proofs.lemmas.List.Sorted.{sum_by-IsPermutation}
use Rattle.gpu_plan.specs.declared.resource.Resource.{Resource}
use Rattle.gpu_plan.specs.declared.order.Order.{Order}
use Rattle.gpu_plan.specs.declared.order.Order.TheVariants.{Size, Area, Alignment, Magnitude, Breadth}
use Rattle.gpu_plan.specs.Plan.{resource_at}
use Rattle.gpu_plan.specs.Passes.{bytes_alive, IsBusiest}
use Rattle.gpu_plan.specs.Order.{Part, Most, Least, Leads, passes_of, IsLog2, IsKey, Precedes, IsOrder}

-- ---- keys

leads_itself : (a : List Part) → Leads a a → ⊥
leads_itself [] h = h
leads_itself (Most x ∷ rest) h = elim h [ inl lt ↦ absurd (omega arith) | inr both ↦ leads_itself rest both.1 ]
leads_itself (Least x ∷ rest) h = elim h [ inl lt ↦ absurd (omega arith) | inr both ↦ leads_itself rest both.1 ]

leads_on : (a b c : List Part) → Leads a b → Leads b c → Leads a c
leads_on [] b c h g = absurd h
leads_on (Most x ∷ a) [] c h g = absurd h
leads_on (Most x ∷ a) (Least y ∷ b) c h g = absurd h
leads_on (Most x ∷ a) (Most y ∷ b) [] h g = absurd g
leads_on (Most x ∷ a) (Most y ∷ b) (Least z ∷ c) h g = absurd g
leads_on (Most x ∷ a) (Most y ∷ b) (Most z ∷ c) h g = elim h [
  | inl lt ↦ elim g [ inl less ↦ inl (omega arith) | inr both ↦ let e = both.0 in inl (omega arith) ]
  | inr same ↦ let d = same.0 in elim g [ inl less ↦ inl (omega arith) | inr both ↦ inr (d ∙ both.0, leads_on a b c same.1 both.1) ]
]
leads_on (Least x ∷ a) [] c h g = absurd h
leads_on (Least x ∷ a) (Most y ∷ b) c h g = absurd h
leads_on (Least x ∷ a) (Least y ∷ b) [] h g = absurd g
leads_on (Least x ∷ a) (Least y ∷ b) (Most z ∷ c) h g = absurd g
leads_on (Least x ∷ a) (Least y ∷ b) (Least z ∷ c) h g = elim h [
  | inl lt ↦ elim g [ inl less ↦ inl (omega arith) | inr both ↦ let e = both.0 in inl (omega arith) ]
  | inr same ↦ let d = same.0 in elim g [ inl less ↦ inl (omega arith) | inr both ↦ inr (d ∙ both.0, leads_on a b c same.1 both.1) ]
]

log2_below : (x m n : ℕ) → IsLog2 x m → IsLog2 x n → m < n → ⊥
log2_below x m n a b lt =
    let up : 2 ^ (m + 1) ≤ 2 ^ n = pow-le-pow_right {n = 2} (omega arith) {i = m + 1} {j = n} (omega arith) in
    let high = a.1 in
    let low = b.0 in
    omega arith

log2_one : (x m n : ℕ) → IsLog2 x m → IsLog2 x n → m ≡ n
log2_one x m n a b = elim (cases_order m n) [
  | inl same ↦ same
  | inr differ ↦ elim differ [ inl lt ↦ absurd (log2_below x m n a b lt) | inr gt ↦ absurd (log2_below x n m b a gt) ]
]

busiest_below : (resources : List Resource) (r : Resource) (p q : ℕ) → IsBusiest resources r p → IsBusiest resources r q → p < q → ⊥
busiest_below resources r p q a b lt =
    let less = b.first p a.begun lt in
    let more = a.most q b.begun b.going in
    omega arith

pub busiest_one : (resources : List Resource) (r : Resource) (p q : ℕ) → IsBusiest resources r p → IsBusiest resources r q → p ≡ q
busiest_one resources r p q a b = elim (cases_order p q) [
  | inl same ↦ same
  | inr differ ↦ elim differ [ inl lt ↦ absurd (busiest_below resources r p q a b lt) | inr gt ↦ absurd (busiest_below resources r q p b a gt) ]
]

key_one : (order : Order) (resources : List Resource) (i : ℕ) (a b : List Part) → IsKey order resources i a → IsKey order resources i b → a ≡ b
key_one Size resources i a b x y = x ∙ sym y
key_one Area resources i a b x y = x ∙ sym y
key_one Alignment resources i a b x y = x ∙ sym y
key_one Magnitude resources i a b x y =
    let r : Resource = resource_at resources i in
    let same : x.0 ≡ y.0 = log2_one r.size x.0 y.0 x.1 y.1 in
    let key : ℕ → List Part = λ n. Most n ∷ Most (passes_of r) ∷ Most r.size ∷ Least i ∷ [] in
    x.2 ∙ (ap key same ∙ sym y.2)
key_one Breadth resources i a b x y =
    let r : Resource = resource_at resources i in
    let same : x.0 ≡ y.0 = busiest_one resources r x.0 y.0 x.1 y.1 in
    let key : ℕ → List Part = λ p. Most (bytes_alive resources p) ∷ Least p ∷ Most r.size ∷ Least i ∷ [] in
    x.2 ∙ (ap key same ∙ sym y.2)

precedes_on : (order : Order) (resources : List Resource) (i j k : ℕ) → Precedes order resources i j → Precedes order resources j k → Precedes order resources i k
precedes_on order resources i j k a b =
    let same : b.key ≡ a.next = key_one order resources j b.key a.next b.key_is a.next_is in
    record {
      key = a.key;
      next = b.next;
      key_is = a.key_is;
      next_is = b.next_is;
      leads = leads_on a.key a.next b.next a.leads (subst (λ (l : List Part). Leads l b.next) same b.leads);
    }

not_both : (order : Order) (resources : List Resource) (i j : ℕ) → Precedes order resources i j → Precedes order resources j i → ⊥
not_both order resources i j a b =
    let round = precedes_on order resources i j i a b in
    let same : round.next ≡ round.key = key_one order resources i round.next round.key round.next_is round.key_is in
    leads_itself round.key (subst (λ (l : List Part). Leads round.key l) same round.leads)

-- ---- lists of which each number precedes the next

module _ (R : ℕ → ℕ → Type 0) (on : (i j k : ℕ) → R i j → R j k → R i k) (once : (i j : ℕ) → R i j → R j i → ⊥) where
  -- each precedes all that come after it
  abbrev Chain : List ℕ → Type 0
  Chain [] = Unit {0}
  Chain (x ∷ xs) = AllByRecursion (R x) xs × Chain xs

  further : (x y : ℕ) (ys : List ℕ) → R x y → AllByRecursion (R y) ys → AllByRecursion (R x) ys
  further x y [] h all = tt
  further x y (z ∷ ys) h all = (on x y z h all.0, further x y ys h all.1)

  chain_from : (xs : List ℕ) → ((k : ℕ) → k + 1 < length xs → R (get_or xs k 0) (get_or xs (k + 1) 0)) → Chain xs
  chain_from [] h = tt
  chain_from (x ∷ []) h = (tt, tt)
  chain_from (x ∷ y ∷ ys) h =
      let rest : Chain (y ∷ ys) = chain_from (y ∷ ys) (λ k lt.
      let next : k + 1 + 1 ≡ suc (k + 1) = omega arith in
      let here : k + 1 ≡ suc k = omega arith in
      let r : R (get_or (x ∷ y ∷ ys) (k + 1) 0) (get_or (x ∷ y ∷ ys) (k + 1 + 1) 0) = h (k + 1) (omega arith) in
      let s : R (get_or (x ∷ y ∷ ys) (suc k) 0) (get_or (x ∷ y ∷ ys) (k + 1 + 1) 0) = subst (λ (j : ℕ). R (get_or (x ∷ y ∷ ys) j 0) (get_or (x ∷ y ∷ ys) (k + 1 + 1) 0)) here r in
      subst (λ (j : ℕ). R (get_or (x ∷ y ∷ ys) (suc k) 0) (get_or (x ∷ y ∷ ys) j 0)) next s) in
      let first : R x y = h 0 (omega arith) in
      ((first, further x y ys first rest.0), rest)

  -- one where a number is x
  abbrev is_one : (x z : ℕ) → ℕ
  is_one x z = cond (eqb z x) 1 0

  found : (P : ℕ → Type 0) (x : ℕ) (ys : List ℕ) → AllByRecursion P ys → 0 < sum_by (is_one x) ys → P x
  found P x [] all some = absurd (omega arith)
  found P x (y ∷ ys) all some = elim (cases_eq y x) [
    | inl same ↦ subst P same all.0
    | inr differ ↦
        let split = sum_by-cons (is_one x) y ys in
        let none : is_one x y ≡ 0 = rw (ne_eqb y x differ) refl in
        found P x ys all.1 (omega (arith, split, none, some))
  ]

  other_head : (x y : ℕ) (xs ys : List ℕ) → Chain (y ∷ ys) → sum_by (is_one x) (x ∷ xs) ≡ sum_by (is_one x) (y ∷ ys) → (y ≡ x → ⊥) → R y x
  other_head x y xs ys chain same differ =
      let mine = sum_by-cons (is_one x) x xs in
      let one : is_one x x ≡ 1 = rw (eq-eqb x x refl) refl in
      let theirs = sum_by-cons (is_one x) y ys in
      let none : is_one x y ≡ 0 = rw (ne_eqb y x differ) refl in
      found (R y) x ys chain.0 (omega (arith, mine, one, theirs, none, same))

  pub chains_same : (xs ys : List ℕ) → Chain xs → Chain ys → ((f : ℕ → ℕ) → sum_by f xs ≡ sum_by f ys) → xs ≡ ys
  chains_same [] [] a b same = refl
  chains_same [] (y ∷ ys) a b same = let e = same (λ _. 1) in let split = sum_by-cons (λ (_ : ℕ). 1) y ys in absurd (omega (arith, e, split))
  chains_same (x ∷ xs) [] a b same = let e = same (λ _. 1) in let split = sum_by-cons (λ (_ : ℕ). 1) x xs in absurd (omega (arith, e, split))
  chains_same (x ∷ xs) (y ∷ ys) a b same = elim (cases_eq x y) [
    | inl e ↦
        let rest = chains_same xs ys a.1 b.1 (λ f.
        let whole = same f in
        let mine = sum_by-cons f x xs in
        let theirs = sum_by-cons f y ys in
        let head : f x ≡ f y = ap f e in
        omega (arith, whole, mine, theirs, head)) in
        ap (λ (z : ℕ). z ∷ xs) e ∙ ap (λ (l : List ℕ). y ∷ l) rest
    | inr differ ↦ absurd (once x y (other_head y x ys xs a (sym (same (is_one y))) differ) (other_head x y xs ys b (same (is_one x)) (λ e. differ (sym e))))
  ]

pub order_one : (order : Order) (resources : List Resource) (xs ys : List ℕ) → IsOrder order resources xs → IsOrder order resources ys → xs ≡ ys
order_one order resources xs ys a b =
    let R : ℕ → ℕ → Type 0 = λ i j. Precedes order resources i j in
    let on : (i j k : ℕ) → R i j → R j k → R i k = λ i j k. precedes_on order resources i j k in
    let once : (i j : ℕ) → R i j → R j i → ⊥ = λ i j. not_both order resources i j in
    chains_same R on once xs ys (chain_from R on once xs a.sorted) (chain_from R on once ys b.sorted)
    (λ f. sum_by-IsPermutation f (range_with_len 0 (length resources)) xs a.permutation ∙ sym (sum_by-IsPermutation f (range_with_len 0 (length resources)) ys b.permutation))
