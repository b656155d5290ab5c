-- From a sort by ranks to an order.
use Rattle.std.proofs.Common.{◌≡◌, ◌≢◌, ◌∙◌, refl, sym, ap, subst, ℕ, zero, suc, ◌+◌, ◌-◌, ◌<◌, ◌≤◌, ◌⊎◌, inl, inr, true, false, List, [], ◌∷◌, ◌++◌, length, get_or, take, arith}
use Rattle.std.specs.Prelude.{map, All}
use Rattle.std.specs.List.{range_with_len, IsDistinct, AllByRecursion}
use Rattle.std.specs.List.Sorted.{IsPermutation}
use Rattle.std.specs.declared.cmp.Ordering.{Ordering}
use Rattle.std.specs.Ordering.{is_lt, nat_cmp, ordering_then}
use Rattle.std.proofs.Math.Dec.{eqb, ltb}
use Rattle.std.proofs.lemmas.Bool.{cases_order, cases_eq, cases_lt, lt-ltb, le-ltb, eq-eqb, ne_eqb, eqb-false}
use Rattle.std.proofs.lemmas.List.{map-append, get_or-map, length-map, take_all}
use Rattle.std.proofs.lemmas.List.FromFn.{length-range_with_len, get_or-range_with_len}
use Rattle.std.proofs.lemmas.List.Sorted.{IsPermutation-map, length_permutation, All-permutation}
use Rattle.std.proofs.lemmas.Map.Keys.{IsDistinct-IsPermutation, apart_from_distinct}
use Rattle.gpu_plan.specs.declared.resource.Resource.{Resource}
use Rattle.gpu_plan.specs.declared.order.Order.{Order}
use Rattle.gpu_plan.specs.declared.order.Order.TheVariants.{Size, Area, Alignment, Magnitude, Breadth}
use Rattle.gpu_plan.specs.declared.order.Rank.{Rank}
use Rattle.gpu_plan.specs.Plan.{resource_at, IsValid}
use Rattle.gpu_plan.specs.Order.{Part, Most, Least, Leads, passes_of, Precedes, IsOrder}
use Rattle.gpu_plan.specs.Rank.{Ranks}

-- ---- the indices

pub range_more : (a n : ℕ) → range_with_len a (n + 1) ≡ range_with_len a n ++ ((a + n) ∷ [])
range_more a zero = let e : a ≡ a + 0 = omega arith in ap (λ (x : ℕ). x ∷ []) e
range_more a (suc n) =
    let rest = range_more (a + 1) n in
    let e : a + 1 + n ≡ a + suc n = omega arith in
    let count : suc n + 1 ≡ suc (n + 1) = omega arith in
    ap (λ (m : ℕ). range_with_len a m) count ∙ ap (λ (xs : List ℕ). a ∷ xs) (rest ∙ ap (λ (x : ℕ). range_with_len (a + 1) n ++ (x ∷ [])) e)

pub pushed_index : (ranks : List Rank) (x : Rank) (i : ℕ) → map (λ x. x.index) ranks ≡ range_with_len 0 i → x.index ≡ i → map (λ x. x.index) (ranks ++ (x ∷ [])) ≡ range_with_len 0 (i + 1)
pushed_index ranks x i before here =
    let f : Rank → ℕ = λ x. x.index in
    let a : map f (ranks ++ (x ∷ [])) ≡ map f ranks ++ (x.index ∷ []) = map-append f ranks (x ∷ []) in
    let b : map f ranks ++ (x.index ∷ []) ≡ range_with_len 0 i ++ (x.index ∷ []) = ap (λ (l : List ℕ). l ++ (x.index ∷ [])) before in
    let e : x.index ≡ 0 + i = omega arith in
    let d : range_with_len 0 i ++ (x.index ∷ []) ≡ range_with_len 0 i ++ ((0 + i) ∷ []) = ap (λ (n : ℕ). range_with_len 0 i ++ (n ∷ [])) e in
    a ∙ (b ∙ (d ∙ sym (range_more 0 i)))

pub eqb_flips : (x y : ℕ) → eqb x y ≡ eqb y x
eqb_flips x y = elim (cases_eq x y) [
  | inl e ↦ eq-eqb x y e ∙ sym (eq-eqb y x (sym e))
  | inr ne ↦ ne_eqb x y ne ∙ sym (ne_eqb y x (λ e. ne (sym e)))
]

none_before : (x a n : ℕ) → x < a → AllByRecursion (λ y. eqb x y ≡ false) (range_with_len a n)
none_before x a zero lt = tt
none_before x a (suc n) lt = (ne_eqb x a (λ e. absurd (omega arith)), none_before x (a + 1) n (omega arith))

range_distinct : (a n : ℕ) → IsDistinct eqb (range_with_len a n)
unfolding IsDistinct
range_distinct a zero = tt
range_distinct a (suc n) = (none_before a (a + 1) n (omega arith), range_distinct (a + 1) n)

-- no index stands twice in an order
pub indices_distinct : (n : ℕ) (indices : List ℕ) → IsPermutation (range_with_len 0 n) indices → IsDistinct eqb indices
indices_distinct n indices same = IsDistinct-IsPermutation eqb eqb_flips (range_with_len 0 n) indices same (range_distinct 0 n)

pub indices_differ : (n : ℕ) (indices : List ℕ) (i j d : ℕ) → IsPermutation (range_with_len 0 n) indices → i < j → j < length indices → get_or indices i d ≢ get_or indices j d
indices_differ n indices i j d same lt in_list e =
    eqb-false (get_or indices i d) (get_or indices j d) (apart_from_distinct eqb indices i j d (indices_distinct n indices same) lt in_list) e

pub indices_length : (n : ℕ) (indices : List ℕ) → IsPermutation (range_with_len 0 n) indices → length indices ≡ n
indices_length n indices same = length_permutation (range_with_len 0 n) indices same ∙ length-range_with_len 0 n

pub indices_below : (n : ℕ) (indices : List ℕ) → IsPermutation (range_with_len 0 n) indices → All (λ i. i < n) indices
indices_below n indices same = All-permutation (λ i. i < n) (range_with_len 0 n) indices same
    (λ k d lt. let long = length-range_with_len 0 n in let e = get_or-range_with_len 0 n k d (omega arith) in omega arith)

-- ---- from the comparison of ranks to that of keys

not_less : (x y : ℕ) (o : Ordering) → is_lt (ordering_then (nat_cmp x y) o) ≡ false → (y < x) ⊎ ((x ≡ y) × (is_lt o ≡ false))
not_less x y o h = elim (cases_order x y) [
  | inl same ↦ inr (same, rw (le-ltb x y (omega arith), eq-eqb x y same) at h)
  | inr differ ↦ elim differ [
    | inl lt ↦ let e : ltb x y ≡ true = lt-ltb x y lt in let bad : true ≡ false = rw e at h in absurd (cc)
    | inr gt ↦ inl gt
  ]
]

last_not_less : (x y : ℕ) → is_lt (nat_cmp x y) ≡ false → y ≤ x
last_not_less x y h = elim (cases_lt x y) [
  | inl lt ↦ let e : ltb x y ≡ true = lt-ltb x y lt in let bad : true ≡ false = rw e at h in absurd (cc)
  | inr le ↦ le
]

-- the parts of a rank
abbrev pub parts_of : Rank → List Part
parts_of x = Most x.most.0 ∷ Least x.pass ∷ Most x.second.0 ∷ Most x.third.0 ∷ Least x.index ∷ []

unfoldable pub cmp : Rank → Rank → Ordering
cmp x y = ordering_then (nat_cmp y.most.0 x.most.0) (ordering_then (nat_cmp x.pass y.pass) (ordering_then (nat_cmp y.second.0 x.second.0) (ordering_then (nat_cmp y.third.0 x.third.0) (nat_cmp x.index y.index))))

pub parts_lead : (x y : Rank) → is_lt (cmp y x) ≡ false → x.index ≢ y.index → Leads (parts_of x) (parts_of y)
unfolding cmp
parts_lead x y h differ =
    elim (not_less x.most.0 y.most.0 _ h) [
      | inl lt ↦ inl lt
      | inr a ↦ inr (
        a.0,
        elim (not_less y.pass x.pass _ a.1) [
          | inl lt ↦ inl lt
          | inr b ↦ inr (
            sym b.0,
            elim (not_less x.second.0 y.second.0 _ b.1) [
              | inl lt ↦ inl lt
              | inr c ↦ inr (
                c.0,
                elim (not_less x.third.0 y.third.0 _ c.1) [
                  | inl lt ↦ inl lt
                  | inr d ↦ inr (d.0, let le = last_not_less y.index x.index d.1 in inl (omega arith))
                ],
              )
            ],
          )
        ],
      )
    ]

-- a part that is equal in both decides nothing
skip_most : {P : Type 0} (x y : ℕ) → x ≡ y → (y < x) ⊎ ((x ≡ y) × P) → P
skip_most x y e h = elim h [ inl lt ↦ absurd (omega arith) | inr both ↦ both.1 ]

skip_least : {P : Type 0} (x y : ℕ) → x ≡ y → (x < y) ⊎ ((x ≡ y) × P) → P
skip_least x y e h = elim h [ inl lt ↦ absurd (omega arith) | inr both ↦ both.1 ]

-- a part with its other name
keep_most : {P Q : Type 0} (x y a b : ℕ) → x ≡ a → y ≡ b → (P → Q) → (y < x) ⊎ ((x ≡ y) × P) → (b < a) ⊎ ((a ≡ b) × Q)
keep_most x y a b ea eb f h = elim h [ inl lt ↦ inl (omega arith) | inr both ↦ let e = both.0 in inr (omega arith, f both.1) ]

keep_least : {P Q : Type 0} (x y a b : ℕ) → x ≡ a → y ≡ b → (P → Q) → (x < y) ⊎ ((x ≡ y) × P) → (a < b) ⊎ ((a ≡ b) × Q)
keep_least x y a b ea eb f h = elim h [ inl lt ↦ inl (omega arith) | inr both ↦ let e = both.0 in inr (omega arith, f both.1) ]

-- a life is a pass more than its last is behind its first
passes_keep : {P Q : Type 0} (x y : ℕ) (r s : Resource) → x ≡ r.last - r.first → y ≡ s.last - s.first → r.first ≤ r.last → s.first ≤ s.last → (P → Q) → (y < x) ⊎ ((x ≡ y) × P)
    → (passes_of s < passes_of r) ⊎ ((passes_of r ≡ passes_of s) × Q)
passes_keep x y r s ex ey a b f h = elim h [ inl lt ↦ inl (omega arith) | inr both ↦ let e = both.0 in inr (omega arith, f both.1) ]

pub precedes : (order : Order) (resources : List Resource) (x y : Rank) → All IsValid resources → x.index < length resources → y.index < length resources → Ranks order resources x → Ranks order resources y → Leads (parts_of x) (parts_of y)
    → Precedes order resources x.index y.index
precedes Size resources x y asked here there a b l = record {
  key = _;
  next = _;
  key_is = refl;
  next_is = refl;
  leads = keep_most x.most.0 y.most.0 _ _ a.0 b.0 (λ l. skip_most x.third.0 y.third.0 (a.3 ∙ sym b.3) (skip_most x.second.0 y.second.0 (a.2 ∙ sym b.2) (skip_least x.pass y.pass (a.1 ∙ sym b.1) l))) l;
}
precedes Area resources x y asked here there a b l = record {
  key = _;
  next = _;
  key_is = refl;
  next_is = refl;
  leads = keep_most x.most.0 y.most.0 _ _ a.0 b.0 (λ l. skip_most x.third.0 y.third.0 (a.3 ∙ sym b.3) (skip_most x.second.0 y.second.0 (a.2 ∙ sym b.2) (skip_least x.pass y.pass (a.1 ∙ sym b.1) l))) l;
}
precedes Alignment resources x y asked here there a b l = record {
  key = _;
  next = _;
  key_is = refl;
  next_is = refl;
  leads = keep_most x.most.0 y.most.0 _ _ a.0 b.0
      (λ l. keep_most x.second.0 y.second.0 _ _ a.2 b.2 (λ l. skip_most x.third.0 y.third.0 (a.3 ∙ sym b.3) l) (skip_least x.pass y.pass (a.1 ∙ sym b.1) l)) l;
}
precedes Magnitude resources x y asked here there a b l = record {
  key = _;
  next = _;
  key_is = (a.0, a.1, refl);
  next_is = (b.0, b.1, refl);
  leads = keep_most x.most.0 y.most.0 _ _ a.2.0 b.2.0
      (λ l. passes_keep x.second.0 y.second.0 (resource_at resources x.index) (resource_at resources y.index) a.2.2 b.2.2 (asked x.index _ here).2 (asked y.index _ there).2
      (λ l. keep_most x.third.0 y.third.0 _ _ a.2.3 b.2.3 (λ l. l) l) (skip_least x.pass y.pass (a.2.1 ∙ sym b.2.1) l)) l;
}
precedes Breadth resources x y asked here there a b l = record {
  key = _;
  next = _;
  key_is = (a.0, a.1, refl);
  next_is = (b.0, b.1, refl);
  leads = keep_most x.most.0 y.most.0 _ _ a.2.0 b.2.0
      (λ l. keep_least x.pass y.pass _ _ a.2.1 b.2.1 (λ l. keep_most x.second.0 y.second.0 _ _ a.2.2 b.2.2 (λ l. skip_most x.third.0 y.third.0 (a.2.3 ∙ sym b.2.3) l) l) l) l;
}

-- ---- the order that sorted ranks give

pub order_is : (order : Order) (resources : List Resource) (ranks sorted : List Rank) (indices : List ℕ) (i : ℕ) → All IsValid resources → map (λ x. x.index) ranks ≡ range_with_len 0 (length resources) → All (Ranks order resources) ranks
    → IsPermutation ranks sorted → ((k : ℕ) (d : Rank) → 0 ≤ k → k + 1 < length sorted → is_lt (cmp (get_or sorted (k + 1) d) (get_or sorted k d)) ≡ false) → length sorted ≤ i → indices ≡ map (λ x. x.index) (take i sorted)
    → IsOrder order resources indices
order_is order resources ranks sorted indices i asked numbered ranked same rising all made =
    let f : Rank → ℕ = λ x. x.index in
    let n : ℕ = length resources in
    let whole : indices ≡ map f sorted = made ∙ ap (λ (l : List Rank). map f l) (take_all i sorted all) in
    let moved : IsPermutation (map f ranks) (map f sorted) = IsPermutation-map f ranks sorted same in
    let from : IsPermutation (range_with_len 0 n) (map f sorted) = subst (λ (l : List ℕ). IsPermutation l (map f sorted)) numbered moved in
    let permuted : IsPermutation (range_with_len 0 n) indices = subst (λ (l : List ℕ). IsPermutation (range_with_len 0 n) l) (sym whole) from in
    let long : length indices ≡ length sorted = ap (λ (l : List ℕ). length l) whole ∙ length-map sorted f in
    let each : All (Ranks order resources) sorted = All-permutation (Ranks order resources) ranks sorted same ranked in
    let at : (k : ℕ) (d : Rank) → k < length sorted → get_or indices k 0 ≡ (get_or sorted k d).index = λ k d lt. ap (λ (l : List ℕ). get_or l k 0) whole ∙ get_or-map f sorted k d 0 lt in
    record {
      permutation = permuted;
      sorted = λ k lt.
          let d : Rank = record { most = record { 0 = 0 }; pass = 0; second = record { 0 = 0 }; third = record { 0 = 0 }; index = 0 } in
          let x : Rank = get_or sorted k d in
          let y : Rank = get_or sorted (k + 1) d in
          let x_is : get_or indices k 0 ≡ x.index = at k d (omega arith) in
          let y_is : get_or indices (k + 1) 0 ≡ y.index = at (k + 1) d (omega arith) in
          let differ : get_or indices k 0 ≢ get_or indices (k + 1) 0 = indices_differ n indices k (k + 1) 0 permuted (omega arith) lt in
          let low = indices_below n indices permuted k 0 (omega arith) in
          let low_next = indices_below n indices permuted (k + 1) 0 lt in
          let lead = parts_lead x y (rising k d (omega arith) (omega arith)) (λ e. differ (x_is ∙ (e ∙ sym y_is))) in
          let p : Precedes order resources x.index y.index = precedes order resources x y asked (omega arith) (omega arith) (each k d (omega arith)) (each (k + 1) d (omega arith)) lead in
          rw (x_is, y_is) p;
    }
