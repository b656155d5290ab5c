-- Places in a list that is in the order of its keys.
use Rattle.std.proofs.Common.{◌≡◌, ◌≢◌, ℕ, ◌+◌, ◌-◌, ◌<◌, ◌≤◌, List, ◌++◌, length, get_or, ◌⊎◌, inl, inr, nat_lt, true, false, Bool, refl, sym, ap, subst, ◌∙◌, arith}
use Rattle.std.specs.List.{AllPairs, insert, remove, prefix_len}
use Rattle.std.proofs.lemmas.Bool.{cases_lt, cases_eq}
use Rattle.std.proofs.lemmas.Bool.Decides.{nat_tests}
use Rattle.std.proofs.lemmas.List.{length-append, get_or_append_left, get_or-append_right, get_or_past}
use Rattle.std.proofs.lemmas.List.Edits.{length-insert, get_or-insert_below, get_or-insert_at, get_or-insert_above, length-remove, get_or-remove_below, get_or-remove_above}
use Rattle.std.proofs.lemmas.List.Sums.{prefix_len-le-length, prefix_len_passes, prefix_len_stops}
use Rattle.gpu_block_gaps.specs.Order.{IsIn, IsPlaceIn, IsFirstUp, IsLastDown, AllDown}

pub in_append_left : (l : ℕ) (xs ys : List ℕ) → IsIn l xs → IsIn l (xs ++ ys)
in_append_left l xs ys is = (is.0, (let a = length-append xs ys in let b = is.1 in omega arith), get_or_append_left xs ys 0 is.0 is.1 ∙ is.2)

pub in_append_right : (l : ℕ) (xs ys : List ℕ) → IsIn l ys → IsIn l (xs ++ ys)
in_append_right l xs ys is = (
  length xs + is.0,
  (let a = length-append xs ys in let b = is.1 in omega arith),
  get_or-append_right xs ys (length xs) (length xs + is.0) 0 refl (omega arith) ∙ ap (λ k. get_or ys k 0) (let e : length xs + is.0 - length xs ≡ is.0 = omega arith in e) ∙ is.2,
)

-- ---- with one more

module _ (xs : List ℕ) (p s : ℕ) (le : p ≤ length xs) where
  pub in_inserted : IsIn s (insert xs p s)
  in_inserted = (p, (let a = length-insert xs p s le in omega arith), get_or-insert_at xs p s 0 le)

  pub in_insert : (l : ℕ) → IsIn l xs → IsIn l (insert xs p s)
  in_insert l is = by_order (cases_lt is.0 p)
    where
      by_order : (is.0 < p) ⊎ (p ≤ is.0) → IsIn l (insert xs p s)
      by_order (inl lt) = (is.0, (let a = length-insert xs p s le in omega arith), get_or-insert_below xs p s 0 is.0 lt le ∙ is.2)
      by_order (inr ge) = (is.0 + 1, (let a = length-insert xs p s le in let b = is.1 in omega arith), get_or-insert_above xs p s 0 is.0 ge le ∙ is.2)

  pub in_insert_cases : (l : ℕ) → IsIn l (insert xs p s) → IsIn l xs ⊎ (l ≡ s)
  in_insert_cases l is = by_order (cases_lt is.0 p)
    where
      long : length (insert xs p s) ≡ length xs + 1
      long = length-insert xs p s le

      behind : (k : ℕ) → k < length (insert xs p s) → get_or (insert xs p s) k 0 ≡ l → p < k → IsIn l xs
      behind k within at lt =
          let e : k - 1 + 1 ≡ k = omega (arith, long) in
          (k - 1, omega (arith, long), sym (get_or-insert_above xs p s 0 (k - 1) (omega (arith, long)) le) ∙ ap (λ j. get_or (insert xs p s) j 0) e ∙ at)

      by_order : (is.0 < p) ⊎ (p ≤ is.0) → IsIn l xs ⊎ (l ≡ s)
      by_order (inl lt) = inl (is.0, (omega (arith, long)), sym (get_or-insert_below xs p s 0 is.0 lt le) ∙ is.2)
      by_order (inr ge) = by_place (cases_lt p is.0)
        where
          by_place : (p < is.0) ⊎ (is.0 ≤ p) → IsIn l xs ⊎ (l ≡ s)
          by_place (inl lt) = inl (behind is.0 is.1 is.2 lt)
          by_place (inr no_more) =
              let e : is.0 ≡ p = omega (arith, long) in
              inr (sym is.2 ∙ ap (λ j. get_or (insert xs p s) j 0) e ∙ get_or-insert_at xs p s 0 le)

-- ---- with one less

module _ (xs : List ℕ) (p : ℕ) (lt : p < length xs) where
  pub in_remove : (l : ℕ) → IsIn l xs → l ≢ get_or xs p 0 → IsIn l (remove xs p)
  in_remove l is other = by_order (cases_lt is.0 p)
    where
      short : length (remove xs p) + 1 ≡ length xs
      short = length-remove xs p lt

      by_order : (is.0 < p) ⊎ (p ≤ is.0) → IsIn l (remove xs p)
      by_order (inl before) = (is.0, (omega (arith, short)), get_or-remove_below xs p 0 is.0 before lt ∙ is.2)
      by_order (inr ge) = by_place (cases_lt p is.0)
        where
          by_place : (p < is.0) ⊎ (is.0 ≤ p) → IsIn l (remove xs p)
          by_place (inl behind) =
              let e : is.0 - 1 + 1 ≡ is.0 = omega (arith, short) in
              let within = is.1 in
              (is.0 - 1, omega (arith, short), get_or-remove_above xs p 0 (is.0 - 1) (omega (arith, short)) lt ∙ ap (λ j. get_or xs j 0) e ∙ is.2)
          by_place (inr no_more) = absurd (other (sym is.2 ∙ ap (λ j. get_or xs j 0) (let e : is.0 ≡ p = omega (arith, short) in e)))

  pub in_removed : (l : ℕ) → IsIn l (remove xs p) → (k : ℕ) × (k < length xs) × (get_or xs k 0 ≡ l) × (k ≢ p)
  in_removed l is = by_order (cases_lt is.0 p)
    where
      short : length (remove xs p) + 1 ≡ length xs
      short = length-remove xs p lt

      by_order : (is.0 < p) ⊎ (p ≤ is.0) → (k : ℕ) × (k < length xs) × (get_or xs k 0 ≡ l) × (k ≢ p)
      by_order (inl before) = (is.0, omega (arith, short), sym (get_or-remove_below xs p 0 is.0 before lt) ∙ is.2, λ e. omega (arith, short))
      by_order (inr ge) = let within = is.1 in (is.0 + 1, omega (arith, short), sym (get_or-remove_above xs p 0 is.0 ge lt) ∙ is.2, λ e. omega (arith, short))

-- ---- in the order of keys

pub all_pairs_append : {X : Type 0} (R : X → X → Type 0) (xs ys : List X) → AllPairs R xs → AllPairs R ys
    → ((i j : ℕ) (d : X) → i < length xs → j < length ys → R (get_or xs i d) (get_or ys j d)) → AllPairs R (xs ++ ys)
all_pairs_append {X} R xs ys first second across i j d lt within = by_order (cases_lt i (length xs)) (cases_lt j (length xs))
  where
    long : length (xs ++ ys) ≡ length xs + length ys
    long = length-append xs ys

    left : (k : ℕ) → k < length xs → get_or (xs ++ ys) k d ≡ get_or xs k d
    left k h = get_or_append_left xs ys d k h

    right : (k : ℕ) → length xs ≤ k → get_or (xs ++ ys) k d ≡ get_or ys (k - length xs) d
    right k h = get_or-append_right xs ys (length xs) k d refl h

    by_order : (i < length xs) ⊎ (length xs ≤ i) → (j < length xs) ⊎ (length xs ≤ j) → R (get_or (xs ++ ys) i d) (get_or (xs ++ ys) j d)
    by_order (inl a) (inl b) = subst (λ (x : X). R x (get_or (xs ++ ys) j d)) (sym (left i a)) (subst (λ (y : X). R (get_or xs i d) y) (sym (left j b)) (first i j d lt b))
    by_order (inl a) (inr b) =
        subst (λ (x : X). R x (get_or (xs ++ ys) j d)) (sym (left i a)) (subst (λ (y : X). R (get_or xs i d) y) (sym (right j b)) (across i (j - length xs) d a (omega (arith, long))))
    by_order (inr a) (inl b) = absurd (omega (arith, long))
    by_order (inr a) (inr b) =
        subst (λ (x : X). R x (get_or (xs ++ ys) j d)) (sym (right i a))
        (subst (λ (y : X). R (get_or ys (i - length xs) d) y) (sym (right j b)) (second (i - length xs) (j - length xs) d (omega (arith, long)) (omega (arith, long))))

-- order after an insert at a place that splits the list
pub all_pairs_insert : {X : Type 0} (R : X → X → Type 0) (xs : List X) (p : ℕ) (y : X) → p ≤ length xs → AllPairs R xs
    → ((k : ℕ) (d : X) → k < p → R (get_or xs k d) y) → ((k : ℕ) (d : X) → p ≤ k → k < length xs → R y (get_or xs k d)) → AllPairs R (insert xs p y)
all_pairs_insert {X} R xs p y le ordered low high i j d lt within = by_order (cases_lt i p) (cases_lt j p)
  where
    long : length (insert xs p y) ≡ length xs + 1
    long = length-insert xs p y le

    below : (k : ℕ) → k < p → get_or (insert xs p y) k d ≡ get_or xs k d
    below k h = get_or-insert_below xs p y d k h le

    above : (k : ℕ) → p < k → get_or (insert xs p y) k d ≡ get_or xs (k - 1) d
    above k h = let e : k ≡ k - 1 + 1 = omega (arith, long) in ap (λ m. get_or (insert xs p y) m d) e ∙ get_or-insert_above xs p y d (k - 1) (omega (arith, long)) le

    at : (k : ℕ) → k ≡ p → get_or (insert xs p y) k d ≡ y
    at k e = ap (λ m. get_or (insert xs p y) m d) e ∙ get_or-insert_at xs p y d le

    related : (a b : X) → get_or (insert xs p y) i d ≡ a → get_or (insert xs p y) j d ≡ b → R a b → R (get_or (insert xs p y) i d) (get_or (insert xs p y) j d)
    related a b is_a is_b r = subst (λ (x : X). R x (get_or (insert xs p y) j d)) (sym is_a) (subst (λ (z : X). R a z) (sym is_b) r)

    by_order : (i < p) ⊎ (p ≤ i) → (j < p) ⊎ (p ≤ j) → R (get_or (insert xs p y) i d) (get_or (insert xs p y) j d)
    by_order (inl a) (inl b) = related _ _ (below i a) (below j b) (ordered i j d lt (omega (arith, long)))
    by_order (inl a) (inr b) = by_place (cases_lt p j)
      where
        by_place : (p < j) ⊎ (j ≤ p) → R (get_or (insert xs p y) i d) (get_or (insert xs p y) j d)
        by_place (inl c) = related _ _ (below i a) (above j c) (ordered i (j - 1) d (omega (arith, long)) (omega (arith, long)))
        by_place (inr c) = related _ _ (below i a) (at j (omega (arith, long))) (low i d a)
    by_order (inr a) (inl b) = absurd (omega (arith, long))
    by_order (inr a) (inr b) = by_place (cases_lt p i)
      where
        by_place : (p < i) ⊎ (i ≤ p) → R (get_or (insert xs p y) i d) (get_or (insert xs p y) j d)
        by_place (inl c) = related _ _ (above i c) (above j (omega (arith, long))) (ordered (i - 1) (j - 1) d (omega (arith, long)) (omega (arith, long)))
        by_place (inr c) = related _ _ (at i (omega (arith, long))) (above j (omega (arith, long))) (high (j - 1) d (omega (arith, long)) (omega (arith, long)))

module _ (key : ℕ → ℕ) (order : List ℕ) (sorted : AllPairs (λ a b. key a < key b) order) where
  -- a number has a place
  pub place_there : (n : ℕ) → (p : ℕ) × IsPlaceIn key order n p
  place_there n = (
    p,
    record {
      within = short;
      below = λ k lt. is_less (key (get_or order k 0)) (prefix_len_passes test order k 0 lt);
      from = λ k le lt. behind k le lt (cases_eq k p);
    },
  )
    where
      test : ℕ → Bool
      test l = nat_lt (key l) n

      p : ℕ
      p = prefix_len test order

      short : p ≤ length order
      short = prefix_len-le-length test order

      is_less : (m : ℕ) → nat_lt m n ≡ true → m < n
      is_less m is = grind (arith, nat_tests)

      is_more : (m : ℕ) → nat_lt m n ≡ false → n ≤ m
      is_more m is = grind (arith, nat_tests)

      behind : (k : ℕ) → p ≤ k → k < length order → (k ≡ p) ⊎ (k ≢ p) → n ≤ key (get_or order k 0)
      behind k le lt (inl same) = subst (λ j. n ≤ key (get_or order j 0)) (sym same) (is_more (key (get_or order p 0)) (prefix_len_stops test order 0 (omega arith)))
      behind k le lt (inr other) =
          let first = is_more (key (get_or order p 0)) (prefix_len_stops test order 0 (omega arith)) in
          let later = sorted p k 0 (omega arith) lt in
          omega arith

  -- one key is one leaf's
  pub one_place : (i j : ℕ) → i < length order → j < length order → key (get_or order i 0) ≡ key (get_or order j 0) → i ≡ j
  one_place i j in_i in_j same = by_order (cases_lt i j) (cases_lt j i)
    where
      by_order : (i < j) ⊎ (j ≤ i) → (j < i) ⊎ (i ≤ j) → i ≡ j
      by_order (inl lt) other = absurd (let less = sorted i j 0 lt in_j in omega arith)
      by_order (inr ge) (inl gt) = absurd (let less = sorted j i 0 gt in_i in omega arith)
      by_order (inr ge) (inr le) = omega arith

  module _ (n p : ℕ) (place : IsPlaceIn key order n p) where
    pub first_up_at : (l : ℕ) → IsFirstUp key order n l → (p < length order) × (get_or order p 0 ≡ l)
    first_up_at l first = by_order (cases_lt first.here.0 p) (cases_lt p first.here.0)
      where
        k : ℕ
        k = first.here.0

        here : key (get_or order k 0) ≡ key l
        here = ap key first.here.2

        by_order : (k < p) ⊎ (p ≤ k) → (p < k) ⊎ (k ≤ p) → (p < length order) × (get_or order p 0 ≡ l)
        by_order (inl lt) other = absurd (let less = place.below k lt in let up = first.up in omega (arith, here))
        by_order (inr ge) (inl gt) = absurd (
            let within = first.here.1 in
            let up = place.from p (omega (arith, here)) (omega (arith, here)) in
            let least = first.least (get_or order p 0) (p, omega (arith, here), refl) up in
            let less = sorted p k 0 gt within in
            omega (arith, here))
        by_order (inr ge) (inr le) = let e : k ≡ p = omega (arith, here) in let within = first.here.1 in (omega (arith, here), ap (λ j. get_or order j 0) (sym e) ∙ first.here.2)

    pub none_up_at : AllDown key order n → (p ≡ length order) × (get_or order p 0 ≡ 0)
    none_up_at down = by_order (cases_lt p (length order))
      where
        by_order : (p < length order) ⊎ (length order ≤ p) → (p ≡ length order) × (get_or order p 0 ≡ 0)
        by_order (inl lt) = absurd (let up = place.from p (omega arith) lt in let less = down (get_or order p 0) (p, lt, refl) in omega arith)
        by_order (inr ge) = let within = place.within in (omega arith, get_or_past order p 0 ge)

    -- the place is behind the last leaf with a lesser key
    pub last_down_at : (l : ℕ) → (last : IsLastDown key order n l) → p ≡ last.here.0 + 1
    last_down_at l last = by_order (cases_lt last.here.0 p) (cases_lt (last.here.0 + 1) p)
      where
        k : ℕ
        k = last.here.0

        here : key (get_or order k 0) ≡ key l
        here = ap key last.here.2

        by_order : (k < p) ⊎ (p ≤ k) → (k + 1 < p) ⊎ (p ≤ k + 1) → p ≡ k + 1
        by_order (inr ge) other = absurd (let up = place.from k ge last.here.1 in let down = last.down in omega (arith, here))
        by_order (inl lt) (inl gt) = absurd (
            let within = place.within in
            let down = place.below (k + 1) gt in
            let most = last.greatest (get_or order (k + 1) 0) (k + 1, omega (arith, here), refl) down in
            let less = sorted k (k + 1) 0 (omega (arith, here)) (omega (arith, here)) in
            omega (arith, here))
        by_order (inl lt) (inr le) = omega arith
