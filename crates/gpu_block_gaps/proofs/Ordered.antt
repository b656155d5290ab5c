-- The order of the leaves after a change of the trees.
use Rattle.std.proofs.Common.{◌≡◌, ◌≢◌, ℕ, ◌+◌, ◌*◌, ◌/◌, ◌^◌, ◌<◌, ◌≤◌, List, length, get_or, set, Option, Some, None, ◌⊎◌, inl, inr, refl, sym, ap, subst, ◌∙◌, arith}
use Rattle.std.specs.List.{insert, remove, slice_get}
use Rattle.std.proofs.lemmas.Bool.{cases_eq}
use Rattle.std.proofs.lemmas.Option.{same_Some}
use Rattle.std.proofs.lemmas.List.{get_or-set_same, get_or-set_other, get_or_default}
use Rattle.std.proofs.lemmas.List.Edits.{length-insert, length-remove}
use Rattle.std.proofs.lemmas.List.Quantifiers.{all_pairs_remove}
use Rattle.std.proofs.lemmas.List.Sums.{sum_by-set, sum_by-le-sum_by}
use Rattle.gpu_block_gaps.specs.declared.class.Scale.{Scale}
use Rattle.gpu_block_gaps.specs.declared.tree.Node.{Node}
use Rattle.gpu_block_gaps.specs.declared.tree.Fork.{Fork}
use Rattle.gpu_block_gaps.specs.Tree.{Tree, tip, fork, Slots, HasLeaf, Sorted}
use Rattle.gpu_block_gaps.specs.Forest.{class_in, tree_at, root_at, leaf_count, forks_in, used, AreTrees, Roots, AddsLeaf, LosesLeaf, KeepsTrees}
use Rattle.gpu_block_gaps.specs.Order.{IsIn, HasIn, AreInOrder, IsPlaceIn, Gains}
use Rattle.gpu_block_gaps.proofs.Forests.{root_there}
use Rattle.gpu_block_gaps.proofs.Shapes.{agree_at, agree_all}
use Rattle.gpu_block_gaps.proofs.Positions.{in_insert, in_inserted, in_insert_cases, in_remove, in_removed, all_pairs_insert, one_place}

-- ---- other keys, but for the leaves

sorted_rekeyed : (key key' : ℕ → ℕ) (t : Tree) → ((l : ℕ) → HasLeaf l t → key' l ≡ key l) → Sorted key t → Sorted key' t
sorted_rekeyed key key' (tip leaf) same sorted = tt
sorted_rekeyed key key' (fork slot bit x y) same sorted = (
  sorted.0,
  agree_all key' bit (2 * sorted.0) x (λ l has. ap (λ m. m / 2 ^ bit) (same l (inl has)) ∙ agree_at key bit (2 * sorted.0) x l sorted.1 has),
  agree_all key' bit (2 * sorted.0 + 1) y (λ l has. ap (λ m. m / 2 ^ bit) (same l (inr has)) ∙ agree_at key bit (2 * sorted.0 + 1) y l sorted.2 has),
  sorted_rekeyed key key' x (λ l has. same l (inl has)) sorted.3,
  sorted_rekeyed key key' y (λ l has. same l (inr has)) sorted.4,
)

pub roots_rekeyed : (key key' : ℕ → ℕ) (slots : Slots) (scale : Scale) (c : ℕ) (r : Option Node) (o : Option Tree) → ((t : Tree) → o ≡ Some t → (l : ℕ) → HasLeaf l t → key' l ≡ key l)
    → Roots key slots scale c r o → Roots key' slots scale c r o
roots_rekeyed key key' slots scale c None None same rooted = tt
roots_rekeyed key key' slots scale c None (Some t) same rooted = absurd rooted
roots_rekeyed key key' slots scale c (Some m) None same rooted = absurd rooted
roots_rekeyed key key' slots scale c (Some m) (Some t) same rooted = (rooted.0, sorted_rekeyed key key' t (same t refl) rooted.1, λ leaf has. ap (class_in scale) (same t refl leaf has) ∙ rooted.2 leaf has)

pub trees_rekeyed : (key key' : ℕ → ℕ) (scale : Scale) (forks : List Fork) (spare : List ℕ) (room : ℕ) (roots : List (Option Node)) (classes : List ℕ) (trees : List (Option Tree))
    → ((c l : ℕ) → HasIn trees c l → key' l ≡ key l) → AreTrees key scale forks spare room roots classes trees → AreTrees key' scale forks spare room roots classes trees
trees_rekeyed key key' scale forks spare room roots classes trees same are = record {
  few = are.few;
  wide = are.wide;
  rooted = are.rooted;
  told_all = are.told_all;
  lead = λ c. roots_rekeyed key key' (slice_get forks) scale c (root_at roots c) (tree_at trees c) (λ t is l has. same c l (record { tree = t; is = is; has = has })) (are.lead c);
  told = are.told;
  counted = are.counted;
  fits = are.fits;
  short = are.short;
  distinct = are.distinct;
  vacant = are.vacant;
}

-- what the trees are in, at the class of each leaf
module _ (key : ℕ → ℕ) (scale : Scale) (forks : List Fork) (spare : List ℕ) (room : ℕ) (roots : List (Option Node)) (classes : List ℕ) (trees : List (Option Tree))
    (are : AreTrees key scale forks spare room roots classes trees) where
  pub class_kept : (c l : ℕ) → HasIn trees c l → class_in scale (key l) ≡ c
  class_kept c l has =
      let there = root_there key scale forks spare room roots classes trees are c has.tree has.is in
      there.2.kept l (subst (HasLeaf l) (same_Some _ _ (sym has.is ∙ there.2.is)) has.has)

  pub tree_sorted : (c : ℕ) (t : Tree) → tree_at trees c ≡ Some t → Sorted key t
  tree_sorted c t is =
      let there = root_there key scale forks spare room roots classes trees are c t is in
      subst (Sorted key) (same_Some _ _ (sym there.2.is ∙ is)) there.2.sorted

  -- there is a slot for a fork as long as there are fewer leaves than slots
  pub spare_slot : (order : List ℕ) → AreInOrder key scale trees order → length order < length forks → 0 < length spare
  spare_slot order in_order few =
      let rest = sum_by-le-sum_by used leaf_count trees (λ o. by_tree o) in
      let a = are.counted in
      let b = in_order.counted in
      omega arith
    where
      by_tree : (o : Option Tree) → used o ≤ leaf_count o
      by_tree None = omega arith
      by_tree (Some u) = omega arith

-- ---- as the trees were, in another list

pub order_kept : (key key' : ℕ → ℕ) (scale : Scale) (old new : List (Option Tree)) (order : List ℕ) → KeepsTrees old new → ((l : ℕ) → IsIn l order → key' l ≡ key l)
    → AreInOrder key scale old order → AreInOrder key' scale new order
order_kept key key' scale old new order same keyed are = record {
  sorted = λ i j d lt h. (let less = are.sorted i j d lt h in
      let a = keyed (get_or order i d) (i, omega arith, get_or_default order i 0 d (omega arith)) in
      let b = keyed (get_or order j d) (j, h, get_or_default order j 0 d h) in
      omega arith);
  held = λ c l has. are.held c l (record { tree = has.tree; is = sym (same.0 c) ∙ has.is; has = has.has });
  holds = λ l is. (let was = are.holds l is in
      subst (λ m. HasIn new (class_in scale m) l) (sym (keyed l is)) (record { tree = was.tree; is = same.0 (class_in scale (key l)) ∙ was.is; has = was.has }));
  counted = same.1 ∙ are.counted;
  fits = λ l is. (let a = are.fits l is in let b = keyed l is in omega arith);
}

-- ---- a leaf more

pub gains_first : (trees : List (Option Tree)) (c leaf : ℕ) → tree_at trees c ≡ None → Gains trees c leaf (tip leaf)
gains_first trees c leaf none = record {
  only = λ l has. inr has;
  others = λ l has. absurd (let is = has.is in cc);
  there = refl;
  count = sym (ap leaf_count none);
}

pub gains_beside : (trees : List (Option Tree)) (c leaf : ℕ) (t new : Tree) → tree_at trees c ≡ Some t → AddsLeaf leaf t new → Gains trees c leaf new
gains_beside trees c leaf t new is adds = record {
  only = λ l has. by_leaf l (adds.only l has);
  others = λ l has. adds.others l (subst (HasLeaf l) (same_Some _ _ (sym has.is ∙ is)) has.has);
  there = adds.there;
  count = adds.count ∙ sym (ap leaf_count is);
}
  where
    by_leaf : (l : ℕ) → HasLeaf l t ⊎ (l ≡ leaf) → HasIn trees c l ⊎ (l ≡ leaf)
    by_leaf l (inl has) = inl (record { tree = t; is = is; has = has })
    by_leaf l (inr e) = inr e

module _ (key key' : ℕ → ℕ) (scale : Scale) (trees : List (Option Tree)) (order : List ℕ) (are : AreInOrder key scale trees order) (n p s : ℕ) (new : Tree)
    (place : IsPlaceIn key order n p) (other : (l : ℕ) → IsIn l order → key l ≢ n) (same : (l : ℕ) → IsIn l order → key' l ≡ key l) (is_key : key' s ≡ n) (fits : n < 2 ^ 128)
    (gains : Gains trees (class_in scale n) s new) (within : class_in scale n < length trees) where
  long : length (insert order p s) ≡ length order + 1
  long = length-insert order p s place.within

  at_class : tree_at (set trees (class_in scale n) (Some new)) (class_in scale n) ≡ Some new
  at_class = get_or-set_same trees (class_in scale n) (Some new) None within

  in_class : (l : ℕ) → HasLeaf l new → HasIn (set trees (class_in scale n) (Some new)) (class_in scale n) l
  in_class l has = record { tree = new; is = at_class; has = has }

  -- ids within the list, at any default
  there : (k d : ℕ) → k < length order → IsIn (get_or order k d) order
  there k d lt = (k, lt, get_or_default order k 0 d lt)

  pub order_gains : AreInOrder key' scale (set trees (class_in scale n) (Some new)) (insert order p s)
  order_gains = record {
    sorted = all_pairs_insert (λ a b. key' a < key' b) order p s place.within
        (λ i j d lt h. (let less = are.sorted i j d lt h in let a = same (get_or order i d) (there i d (omega arith)) in let b = same (get_or order j d) (there j d h) in omega arith))
        (λ k d lt. (let inside = place.within in let a = same (get_or order k d) (there k d (omega arith)) in let b = place.below k lt in let e : key (get_or order k 0) ≡ key (get_or order k d) = ap key (get_or_default order k 0 d (omega arith)) in let f = is_key in omega arith))
        (λ k d le lt. (let a = same (get_or order k d) (there k d lt) in let b = place.from k le lt in let e : key (get_or order k 0) ≡ key (get_or order k d) = ap key (get_or_default order k 0 d lt) in let f = is_key in let g = other (get_or order k d) (there k d lt) in omega arith));
    held = λ c l has. held c l has (cases_eq c (class_in scale n));
    holds = λ l is. holds l (in_insert_cases order p s place.within l is);
    counted = (let a = sum_by-set leaf_count trees (class_in scale n) (Some new) None within in let b = gains.count in let e = are.counted in omega (arith, long));
    fits = λ l is. fits_at l (in_insert_cases order p s place.within l is);
  }
    where
      held : (c l : ℕ) → HasIn (set trees (class_in scale n) (Some new)) c l → (c ≡ class_in scale n) ⊎ (c ≢ class_in scale n) → IsIn l (insert order p s)
      held c l has (inl e) = by_leaf (gains.only l (subst (HasLeaf l) (same_Some _ _ (sym has.is ∙ ap (tree_at (set trees (class_in scale n) (Some new))) e ∙ at_class)) has.has))
        where
          by_leaf : HasIn trees (class_in scale n) l ⊎ (l ≡ s) → IsIn l (insert order p s)
          by_leaf (inl h) = in_insert order p s place.within l (are.held (class_in scale n) l h)
          by_leaf (inr is) = subst (λ m. IsIn m (insert order p s)) (sym is) (in_inserted order p s place.within)
      held c l has (inr apart) =
          in_insert order p s place.within l (are.held c l (record { tree = has.tree; is = sym (get_or-set_other trees (class_in scale n) c (Some new) None apart) ∙ has.is; has = has.has }))

      holds : (l : ℕ) → IsIn l order ⊎ (l ≡ s) → HasIn (set trees (class_in scale n) (Some new)) (class_in scale (key' l)) l
      holds l (inr e) = subst (λ c. HasIn (set trees (class_in scale n) (Some new)) c l) (sym (ap (λ m. class_in scale (key' m)) e ∙ ap (class_in scale) is_key)) (in_class l (subst (λ m. HasLeaf m new) (sym e) gains.there))
      holds l (inl is) = subst (λ m. HasIn (set trees (class_in scale n) (Some new)) (class_in scale m) l) (sym (same l is)) (by_class (cases_eq (class_in scale (key l)) (class_in scale n)))
        where
          by_class : (class_in scale (key l) ≡ class_in scale n) ⊎ (class_in scale (key l) ≢ class_in scale n) → HasIn (set trees (class_in scale n) (Some new)) (class_in scale (key l)) l
          by_class (inl e) = subst (λ c. HasIn (set trees (class_in scale n) (Some new)) c l) (sym e) (in_class l (gains.others l (subst (λ c. HasIn trees c l) e (are.holds l is))))
          by_class (inr apart) =
              let was = are.holds l is in
              record { tree = was.tree; is = get_or-set_other trees (class_in scale n) (class_in scale (key l)) (Some new) None apart ∙ was.is; has = was.has }

      fits_at : (l : ℕ) → IsIn l order ⊎ (l ≡ s) → key' l < 2 ^ 128
      fits_at l (inl is) = let a = are.fits l is in let b = same l is in omega arith
      fits_at l (inr e) = let a : key' l ≡ key' s = ap key' e in let b = is_key in let f = fits in omega arith

-- ---- a leaf less

module _ (key : ℕ → ℕ) (scale : Scale) (trees : List (Option Tree)) (order : List ℕ) (are : AreInOrder key scale trees order) (kept : (c l : ℕ) → HasIn trees c l → class_in scale (key l) ≡ c)
    (n p : ℕ) (t : Tree) (rest : Option Tree) (lt : p < length order) (is_key : key (get_or order p 0) ≡ n) (is : tree_at trees (class_in scale n) ≡ Some t) (loses : LosesLeaf (get_or order p 0) t rest)
    (within : class_in scale n < length trees) where
  short : length (remove order p) + 1 ≡ length order
  short = length-remove order p lt

  gone : ℕ
  gone = get_or order p 0

  rest_at : tree_at (set trees (class_in scale n) rest) (class_in scale n) ≡ rest
  rest_at = get_or-set_same trees (class_in scale n) rest None within

  -- what is left was there, and is another leaf
  left_had : (o : Option Tree) → LosesLeaf (get_or order p 0) t o → (l : ℕ) (u : Tree) → o ≡ Some u → HasLeaf l u → HasLeaf l t × (l ≢ get_or order p 0)
  left_had None lost l u same has = absurd (cc)
  left_had (Some v) lost l u same has =
      let in_v : HasLeaf l v = subst (HasLeaf l) (same_Some _ _ (sym same)) has in
      (lost.only l in_v, λ e. lost.gone (subst (λ m. HasLeaf m v) e in_v))

  left_has : (o : Option Tree) → LosesLeaf (get_or order p 0) t o → (l : ℕ) → HasLeaf l t → l ≢ get_or order p 0 → (u : Tree) × (o ≡ Some u) × HasLeaf l u
  left_has None lost l has other = absurd (other (subst (HasLeaf l) lost has))
  left_has (Some v) lost l has other = by_leaf (lost.others l has)
    where
      by_leaf : HasLeaf l v ⊎ (l ≡ get_or order p 0) → (u : Tree) × (Some v ≡ Some u) × HasLeaf l u
      by_leaf (inl h) = (v, refl, h)
      by_leaf (inr e) = absurd (other e)

  left_count : (o : Option Tree) → LosesLeaf (get_or order p 0) t o → leaf_count (Some t) ≡ leaf_count o + 1
  left_count None lost = ap (λ (u : Tree). forks_in u + 1) lost
  left_count (Some v) lost = let a = lost.count in omega arith

  pub order_loses : AreInOrder key scale (set trees (class_in scale n) rest) (remove order p)
  order_loses = record {
    sorted = all_pairs_remove (λ a b. key a < key b) order p lt are.sorted;
    held = λ c l has. held c l has (cases_eq c (class_in scale n));
    holds = λ l here. holds l (in_removed order p lt l here);
    counted = (let a = sum_by-set leaf_count trees (class_in scale n) rest None within in let b = left_count rest loses in let d : leaf_count (tree_at trees (class_in scale n)) ≡ leaf_count (Some t) = ap leaf_count is in let e = are.counted in omega (arith, short));
    fits = λ l here. (let old = in_removed order p lt l here in are.fits l (old.0, old.1, old.2));
  }
    where
      held : (c l : ℕ) → HasIn (set trees (class_in scale n) rest) c l → (c ≡ class_in scale n) ⊎ (c ≢ class_in scale n) → IsIn l (remove order p)
      held c l has (inl e) =
          let at : rest ≡ Some has.tree = sym rest_at ∙ ap (tree_at (set trees (class_in scale n) rest)) (sym e) ∙ has.is in
          let had = left_had rest loses l has.tree at has.has in
          in_remove order p lt l (are.held (class_in scale n) l (record { tree = t; is = is; has = had.0 })) had.1
      held c l has (inr apart) =
          let was : HasIn trees c l = record { tree = has.tree; is = sym (get_or-set_other trees (class_in scale n) c rest None apart) ∙ has.is; has = has.has } in
          in_remove order p lt l (are.held c l was) (λ e. apart (sym (kept c l was) ∙ ap (λ m. class_in scale (key m)) e ∙ ap (class_in scale) is_key))

      holds : (l : ℕ) → (k : ℕ) × (k < length order) × (get_or order k 0 ≡ l) × (k ≢ p) → HasIn (set trees (class_in scale n) rest) (class_in scale (key l)) l
      holds l old = by_class (cases_eq (class_in scale (key l)) (class_in scale n))
        where
          was : HasIn trees (class_in scale (key l)) l
          was = are.holds l (old.0, old.1, old.2)

          other : l ≢ get_or order p 0
          other e = old.3 (one_place key order are.sorted old.0 p old.1 lt (ap key (old.2 ∙ e)))

          by_class : (class_in scale (key l) ≡ class_in scale n) ⊎ (class_in scale (key l) ≢ class_in scale n) → HasIn (set trees (class_in scale n) rest) (class_in scale (key l)) l
          by_class (inl e) =
              let in_t : HasLeaf l t = subst (HasLeaf l) (same_Some _ _ (sym was.is ∙ ap (tree_at trees) e ∙ is)) was.has in
              let found = left_has rest loses l in_t other in
              record { tree = found.0; is = ap (tree_at (set trees (class_in scale n) rest)) e ∙ rest_at ∙ found.1; has = found.2 }
          by_class (inr apart) = record { tree = was.tree; is = get_or-set_other trees (class_in scale n) (class_in scale (key l)) rest None apart ∙ was.is; has = was.has }
