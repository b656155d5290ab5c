-- A leaf less in the trees of the classes.
use Rattle.std.proofs.Common.{◌≡◌, ◌≢◌, ℕ, ◌+◌, ◌*◌, ◌<◌, ◌≤◌, List, [], ◌∷◌, ◌++◌, length, set, Option, Some, None, is_some, true, false, Bool, cond, ◌⊎◌, inl, inr, refl, sym, ap, subst, ◌∙◌, arith}
use Rattle.std.specs.List.{slice_get}
use Rattle.std.proofs.lemmas.Option.{same_Some, slice_get_within}
use Rattle.std.proofs.lemmas.List.{length-append}
use Rattle.std.proofs.lemmas.List.Sums.{get_or-le-sum_by}
use Rattle.std.proofs.lemmas.List.Quantifiers.{all_pairs_push}
use Rattle.std.proofs.lemmas.List.Elements.{All-push, All-weaker, All-get_or}
use Rattle.std.proofs.lemmas.Bool.{cases_lt}
use Rattle.std.proofs.lemmas.List.{get_or_past}
use Rattle.gpu_block_gaps.specs.declared.class.Scale.{Scale}
use Rattle.gpu_block_gaps.specs.declared.tree.Node.{Node}
use Rattle.gpu_block_gaps.specs.declared.tree.Node.TheVariants.{Branch}
use Rattle.gpu_block_gaps.specs.declared.tree.Fork.{Fork}
use Rattle.gpu_block_gaps.specs.Key.{bit_of}
use Rattle.gpu_block_gaps.specs.ClassSet.{ChangesOne}
use Rattle.gpu_block_gaps.specs.Tree.{Tree, tip, fork, Lays, HasLeaf, HasFork, Sorted, near, is_tip, pruned, HasPruned}
use Rattle.gpu_block_gaps.specs.Forest.{class_in, tree_at, root_at, AreTrees, IsVacant, IsWithout, forks_in, used}
use Rattle.gpu_block_gaps.proofs.Trees.{fork_at}
use Rattle.gpu_block_gaps.proofs.Shapes.{near_has, agree_at, below}
use Rattle.gpu_block_gaps.proofs.Pruning.{leaf_pruned, fork_pruned, sorted_pruned, freed_has, freed_gone}
use Rattle.gpu_block_gaps.proofs.Forests.{IsOutside, replanted, root_there, classes_apart, TreeAt}

-- ---- the tree has lost the leaf alone

tip_leaf : (n : ℕ) (t : Tree) (l : ℕ) → is_tip t ≡ true → HasLeaf l t → l ≡ near n t
tip_leaf n (tip leaf) l is has = has
tip_leaf n (fork at b x y) l is has = absurd (cc)

tip_forks : (t : Tree) → is_tip t ≡ true → forks_in t ≡ 0
tip_forks (tip leaf) is = refl
tip_forks (fork at b x y) is = absurd (cc)

pruned_keeps : (n : ℕ) (t : Tree) (l : ℕ) → is_tip t ≡ false → HasLeaf l t → HasLeaf l (pruned n t) ⊎ (l ≡ near n t)
pruned_keeps n (tip leaf) l more has = absurd (cc)
pruned_keeps n (fork at b x y) l more has = by_test (bit_of n b) (is_tip x) (is_tip y) refl refl (pruned_keeps n x l) (pruned_keeps n y l) has
  where
    by_test : (c d e : Bool) → is_tip x ≡ d → is_tip y ≡ e → (is_tip x ≡ false → HasLeaf l x → HasLeaf l (pruned n x) ⊎ (l ≡ near n x))
        → (is_tip y ≡ false → HasLeaf l y → HasLeaf l (pruned n y) ⊎ (l ≡ near n y)) → HasLeaf l x ⊎ HasLeaf l y
        → HasLeaf l (cond c (cond e x (fork at b x (pruned n y))) (cond d y (fork at b (pruned n x) y))) ⊎ (l ≡ cond c (near n y) (near n x))
    by_test true d true is_x is_y left right (inl h) = inl h
    by_test true d true is_x is_y left right (inr h) = inr (tip_leaf n y l is_y h)
    by_test true d false is_x is_y left right (inl h) = inl (inl h)
    by_test true d false is_x is_y left right (inr h) =
        elim (right is_y h) as (λ _. (HasLeaf l x ⊎ HasLeaf l (pruned n y)) ⊎ (l ≡ near n y)) [ inl kept ↦ inl (inr kept) | inr e ↦ inr e ]
    by_test false true e is_x is_y left right (inl h) = inr (tip_leaf n x l is_x h)
    by_test false true e is_x is_y left right (inr h) = inl h
    by_test false false e is_x is_y left right (inl h) =
        elim (left is_x h) as (λ _. (HasLeaf l (pruned n x) ⊎ HasLeaf l y) ⊎ (l ≡ near n x)) [ inl kept ↦ inl (inl kept) | inr e ↦ inr e ]
    by_test false false e is_x is_y left right (inr h) = inl (inr h)

pruned_gone : (key : ℕ → ℕ) (n : ℕ) (t : Tree) → Sorted key t → is_tip t ≡ false → HasLeaf (near n t) (pruned n t) → ⊥
pruned_gone key n (tip leaf) sorted more has = absurd (cc)
pruned_gone key n (fork at b x y) sorted more has =
    by_test (bit_of n b) (is_tip x) (is_tip y) refl refl (pruned_gone key n x sorted.3) (pruned_gone key n y sorted.4) has
  where
    divided : (l : ℕ) → HasLeaf l x → HasLeaf l y → ⊥
    divided l in_x in_y =
        let even = agree_at key b (2 * sorted.0) x l sorted.1 in_x in
        let odd = agree_at key b (2 * sorted.0 + 1) y l sorted.2 in_y in
        absurd (omega arith)

    by_test : (c d e : Bool) → is_tip x ≡ d → is_tip y ≡ e → (is_tip x ≡ false → HasLeaf (near n x) (pruned n x) → ⊥) → (is_tip y ≡ false → HasLeaf (near n y) (pruned n y) → ⊥)
        → HasLeaf (cond c (near n y) (near n x)) (cond c (cond e x (fork at b x (pruned n y))) (cond d y (fork at b (pruned n x) y))) → ⊥
    by_test true d true is_x is_y left right h = divided (near n y) h (near_has n y)
    by_test true d false is_x is_y left right (inl h) = divided (near n y) h (near_has n y)
    by_test true d false is_x is_y left right (inr h) = right is_y h
    by_test false true e is_x is_y left right h = divided (near n x) (near_has n x) h
    by_test false false e is_x is_y left right (inl h) = left is_x h
    by_test false false e is_x is_y left right (inr h) = divided (near n x) (near_has n x) h

pruned_count : (n : ℕ) (t : Tree) → is_tip t ≡ false → forks_in t ≡ forks_in (pruned n t) + 1
pruned_count n (tip leaf) more = absurd (cc)
pruned_count n (fork at b x y) more = by_test (bit_of n b) (is_tip x) (is_tip y) refl refl (pruned_count n x) (pruned_count n y)
  where
    by_test : (c d e : Bool) → is_tip x ≡ d → is_tip y ≡ e → (is_tip x ≡ false → forks_in x ≡ forks_in (pruned n x) + 1) → (is_tip y ≡ false → forks_in y ≡ forks_in (pruned n y) + 1)
        → forks_in x + forks_in y + 1 ≡ forks_in (cond c (cond e x (fork at b x (pruned n y))) (cond d y (fork at b (pruned n x) y))) + 1
    by_test true d true is_x is_y left right = (let none = tip_forks y is_y in omega arith)
    by_test true d false is_x is_y left right = (let less = right is_y in omega arith)
    by_test false true e is_x is_y left right = (let none = tip_forks x is_x in omega arith)
    by_test false false e is_x is_y left right = (let less = left is_x in omega arith)

pub without_leaf : (key : ℕ → ℕ) (n : ℕ) (t : Tree) → Sorted key t → is_tip t ≡ false → IsWithout (near n t) t (pruned n t)
without_leaf key n t sorted more = record {
  only = leaf_pruned n t;
  gone = pruned_gone key n t sorted more;
  others = λ l has. pruned_keeps n t l more has;
  count = pruned_count n t more;
}

-- ---- the slot that is given back

pub fork_within : (forks : List Fork) (top : ℕ) (node : Node) (t : Tree) (k : ℕ) → Lays (slice_get forks) top node t → HasFork k t → k < length forks
fork_within forks top node t k laid has =
    let part = below (slice_get forks) top node t k laid has in
    let there = fork_at (slice_get forks) part.top (Branch k) part.tree k part.laid refl in
    slice_get_within forks k _ there.read

some_forks : (t : Tree) → is_tip t ≡ false → 1 ≤ forks_in t
some_forks (tip leaf) more = absurd (cc)
some_forks (fork at b x y) more = omega arith

module _ (key : ℕ → ℕ) (scale : Scale) (forks : List Fork) (spare : List ℕ) (room : ℕ) (roots : List (Option Node)) (classes : List ℕ) (trees : List (Option Tree))
    (are : AreTrees key scale forks spare room roots classes trees) where
  class_has : (c : ℕ) (t : Tree) → tree_at trees c ≡ Some t → c < length trees
  class_has c t is = by_order (cases_lt c (length trees))
    where
      by_order : (c < length trees) ⊎ (length trees ≤ c) → c < length trees
      by_order (inl lt) = lt
      by_order (inr past) = absurd (let none = get_or_past trees c None past in cc)

  -- a tree with a fork leaves room among the spare slots
  pub spare_room : (c : ℕ) (t : Tree) → tree_at trees c ≡ Some t → is_tip t ≡ false → length spare < room
  spare_room c t is more =
      let part = get_or-le-sum_by used trees c None (class_has c t is) in
      let some = some_forks t more in
      let mine : used (tree_at trees c) ≡ forks_in t = ap used is in
      let all = are.counted in
      let fits = are.fits in
      omega arith

  pub pruned_planted : (forks' : List Fork) (slot c : ℕ) (node node' : Node) (t : Tree) (n : ℕ) → root_at roots c ≡ Some node → tree_at trees c ≡ Some t → is_tip t ≡ false → c < length roots
      → length forks' ≡ length forks → HasPruned (slice_get forks) (slice_get forks') 128 node' t n slot
      → AreTrees key scale forks' (spare ++ slot ∷ []) room (set roots c (Some node')) classes (set trees c (Some (pruned n t)))
  pruned_planted forks' slot c node node' t n rooted is more within long cut =
      replanted key scale forks forks' spare (spare ++ slot ∷ []) room roots classes classes trees c (Some node') (Some (pruned n t)) are (record {
        within = within;
        planted = (cut.laid, sorted_pruned key n t sorted, λ l has. kept l (leaf_pruned n t l has));
        long = long;
        others = λ d u other here k in_u. cut.others k (λ in_t. classes_apart key scale forks spare room roots classes trees are d c u t k other here is in_u in_t);
        classes_long = refl;
        told = are.told c ∙ ap (λ (o : Option Node). is_some o) rooted;
        told_others = λ d other. refl;
        counted = (let a = length-append spare (slot ∷ []) in let e = ap used is in let g = pruned_count n t more in omega arith);
        distinct = all_pairs_push (λ a b. a ≢ b) spare slot are.distinct (λ i d inside same.
            (All-get_or (IsVacant forks trees) spare i d inside are.vacant).1 c t is (subst (λ k. HasFork k t) (sym same) given_has));
        vacant = All-push (IsOutside forks trees c (Some (pruned n t))) spare slot
            (All-weaker (IsVacant forks trees) (IsOutside forks trees c (Some (pruned n t)))
            (λ k vacant. (vacant.0, λ u same has. vacant.1 c t is (fork_pruned n t k (subst (HasFork k) (sym (same_Some _ _ same)) has)), λ d u other here has. vacant.1 d u here has)) spare are.vacant) (
              fork_within forks 128 node t slot laid given_has,
              λ u same has. freed_gone key (slice_get forks) 128 node n t laid sorted
                  (subst (λ k. HasFork k (pruned n t)) cut.unused (subst (HasFork slot) (sym (same_Some _ _ same)) has)),
              λ d u other here has. classes_apart key scale forks spare room roots classes trees are d c u t slot other here is has given_has,
            );
      })
    where
      there : (m : Node) × (root_at roots c ≡ Some m) × TreeAt key (slice_get forks) scale c m (tree_at trees c)
      there = root_there key scale forks spare room roots classes trees are c t is

      same_tree : (there.2).tree ≡ t
      same_tree = same_Some _ _ (sym (there.2).is ∙ is)

      same_node : there.0 ≡ node
      same_node = same_Some _ _ (sym there.1 ∙ rooted)

      laid : Lays (slice_get forks) 128 node t
      laid = subst (λ (m : Node). Lays (slice_get forks) 128 m t) same_node (subst (Lays (slice_get forks) 128 there.0) same_tree (there.2).laid)

      sorted : Sorted key t
      sorted = subst (Sorted key) same_tree (there.2).sorted

      kept : (l : ℕ) → HasLeaf l t → class_in scale (key l) ≡ c
      kept l has = (there.2).kept l (subst (HasLeaf l) (sym same_tree) has)

      given_has : HasFork slot t
      given_has = subst (λ k. HasFork k t) (sym cut.unused) (freed_has n t more)

  pub last_gone : (classes' : List ℕ) (c leaf : ℕ) → tree_at trees c ≡ Some (tip leaf) → c < length roots → ChangesOne classes classes' c false
      → AreTrees key scale forks spare room (set roots c None) classes' (set trees c None)
  last_gone classes' c leaf is within changes =
      replanted key scale forks forks spare spare room roots classes classes' trees c None None are (record {
        within = within;
        planted = tt;
        long = refl;
        others = λ d t other there k in_t. refl;
        classes_long = changes.length;
        told = changes.changed;
        told_others = changes.others;
        counted = ap (λ (o : Option Tree). length spare + used o) (sym is);
        distinct = are.distinct;
        vacant = All-weaker (IsVacant forks trees) (IsOutside forks trees c None)
            (λ k vacant. (vacant.0, λ t same in_t. absurd (cc), λ d t other there in_t. vacant.1 d t there in_t)) spare are.vacant;
      })
