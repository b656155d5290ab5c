-- A leaf more in the trees of the classes.
use Rattle.std.proofs.Common.{◌≡◌, ◌≢◌, ℕ, ◌+◌, ◌<◌, List, [], ◌∷◌, ◌++◌, length, get_or, set, Option, Some, None, is_some, true, false, Bool, cond, nat_lt, All, ◌⊎◌, inl, inr, refl, sym, ap, subst, ◌∙◌, arith}
use Rattle.std.specs.List.{slice_get, AllPairs}
use Rattle.std.proofs.lemmas.Option.{same_Some}
use Rattle.std.proofs.lemmas.List.{get_or_append_left, get_or_at, length-append}
use Rattle.std.proofs.lemmas.List.Elements.{All-pop, All-weaker, All-from_get_or, All-get_or}
use Rattle.gpu_block_gaps.specs.declared.class.Scale.{Scale}
use Rattle.gpu_block_gaps.specs.declared.tree.Node.{Node}
use Rattle.gpu_block_gaps.specs.declared.tree.Node.TheVariants.{Leaf}
use Rattle.gpu_block_gaps.specs.declared.tree.Fork.{Fork}
use Rattle.gpu_block_gaps.specs.Key.{bit_of}
use Rattle.gpu_block_gaps.specs.ClassSet.{ChangesOne}
use Rattle.gpu_block_gaps.specs.Tree.{Tree, tip, fork, Lays, HasLeaf, HasFork, joined, grown, CanGrow, HasGrown, IsSplit}
use Rattle.gpu_block_gaps.specs.Forest.{class_in, tree_at, root_at, AreTrees, IsVacant, AddsLeaf, forks_in, used}
use Rattle.gpu_block_gaps.proofs.Growing.{leaf_grown, fork_grown}
use Rattle.gpu_block_gaps.proofs.Grown.{sorted_grown}
use Rattle.gpu_block_gaps.proofs.Forests.{IsOutside, replanted, root_there, tree_there, classes_apart, TreeAt}

-- ---- the tree has the leaf and all that it had

module _ (n bit leaf slot : ℕ) where
  joined_keeps : (t : Tree) (l : ℕ) → HasLeaf l t → HasLeaf l (joined n bit leaf slot t)
  joined_keeps t l has = by_bit (bit_of n bit)
    where
      by_bit : (b : Bool) → HasLeaf l (cond b (fork slot bit t (tip leaf)) (fork slot bit (tip leaf) t))
      by_bit true = inl has
      by_bit false = inr has

  joined_has : (t : Tree) → HasLeaf leaf (joined n bit leaf slot t)
  joined_has t = by_bit (bit_of n bit)
    where
      by_bit : (b : Bool) → HasLeaf leaf (cond b (fork slot bit t (tip leaf)) (fork slot bit (tip leaf) t))
      by_bit true = inr refl
      by_bit false = inl refl

  joined_count : (t : Tree) → forks_in (joined n bit leaf slot t) ≡ forks_in t + 1
  joined_count t = by_bit (bit_of n bit)
    where
      by_bit : (b : Bool) → forks_in (cond b (fork slot bit t (tip leaf)) (fork slot bit (tip leaf) t)) ≡ forks_in t + 1
      by_bit true = omega arith
      by_bit false = omega arith

  grown_keeps : (t : Tree) (l : ℕ) → HasLeaf l t → HasLeaf l (grown n bit leaf slot t)
  grown_keeps (tip other) l has = joined_keeps (tip other) l has
  grown_keeps (fork at b x y) l has = by_test (nat_lt bit b) (bit_of n b) (grown n bit leaf slot x) (grown n bit leaf slot y) (grown_keeps x l) (grown_keeps y l) has
    where
      by_test : (c d : Bool) (v w : Tree) → (HasLeaf l x → HasLeaf l v) → (HasLeaf l y → HasLeaf l w) → HasLeaf l x ⊎ HasLeaf l y
          → HasLeaf l (cond c (cond d (fork at b x w) (fork at b v y)) (joined n bit leaf slot (fork at b x y)))
      by_test false d v w left right has = joined_keeps (fork at b x y) l has
      by_test true true v w left right (inl h) = inl h
      by_test true true v w left right (inr h) = inr (right h)
      by_test true false v w left right (inl h) = inl (left h)
      by_test true false v w left right (inr h) = inr h

  grown_has : (t : Tree) → HasLeaf leaf (grown n bit leaf slot t)
  grown_has (tip other) = joined_has (tip other)
  grown_has (fork at b x y) = by_test (nat_lt bit b) (bit_of n b) (grown n bit leaf slot x) (grown n bit leaf slot y) (grown_has x) (grown_has y)
    where
      by_test : (c d : Bool) (v w : Tree) → HasLeaf leaf v → HasLeaf leaf w → HasLeaf leaf (cond c (cond d (fork at b x w) (fork at b v y)) (joined n bit leaf slot (fork at b x y)))
      by_test false d v w left right = joined_has (fork at b x y)
      by_test true true v w left right = inr right
      by_test true false v w left right = inl left

  grown_count : (t : Tree) → forks_in (grown n bit leaf slot t) ≡ forks_in t + 1
  grown_count (tip other) = joined_count (tip other)
  grown_count (fork at b x y) = by_test (nat_lt bit b) (bit_of n b) (grown n bit leaf slot x) (grown n bit leaf slot y) (grown_count x) (grown_count y)
    where
      by_test : (c d : Bool) (v w : Tree) → forks_in v ≡ forks_in x + 1 → forks_in w ≡ forks_in y + 1
          → forks_in (cond c (cond d (fork at b x w) (fork at b v y)) (joined n bit leaf slot (fork at b x y))) ≡ forks_in x + forks_in y + 1 + 1
      by_test false d v w left right = joined_count (fork at b x y)
      by_test true true v w left right = omega arith
      by_test true false v w left right = omega arith

  pub adds_leaf : (t : Tree) → AddsLeaf leaf t (grown n bit leaf slot t)
  adds_leaf t = record { only = leaf_grown n bit leaf slot t; others = grown_keeps t; there = grown_has t; count = grown_count t }

-- ---- the last of the spare slots

distinct_front : (ys : List ℕ) (z : ℕ) → AllPairs (λ a b. a ≢ b) (ys ++ z ∷ []) → AllPairs (λ a b. a ≢ b) ys
distinct_front ys z distinct = λ i j d before within.
    let longer = length-append ys (z ∷ []) in
    let first = get_or_append_left ys (z ∷ []) d i (omega arith) in
    let second = get_or_append_left ys (z ∷ []) d j within in
    λ same. distinct i j d before (omega arith) (first ∙ same ∙ sym second)

apart_last : (ys : List ℕ) (z : ℕ) → AllPairs (λ a b. a ≢ b) (ys ++ z ∷ []) → All (λ k. k ≢ z) ys
apart_last ys z distinct = All-from_get_or (λ k. k ≢ z) ys 0 (λ i within same.
    let longer = length-append ys (z ∷ []) in
    let first = get_or_append_left ys (z ∷ []) 0 i within in
    let last = get_or_at ys z [] 0 (length ys) refl in
    distinct i (length ys) 0 within (omega arith) (first ∙ same ∙ sym last))

-- ---- the trees of all classes

module _ (key : ℕ → ℕ) (scale : Scale) (forks : List Fork) (spare : List ℕ) (room : ℕ) (roots : List (Option Node)) (classes : List ℕ) (trees : List (Option Tree))
    (are : AreTrees key scale forks spare room roots classes trees) where
  pub first_planted : (classes' : List ℕ) (c leaf n : ℕ) → c ≡ class_in scale n → c < length roots → key leaf ≡ n → tree_at trees c ≡ None → ChangesOne classes classes' c true
      → AreTrees key scale forks spare room (set roots c (Some (Leaf leaf))) classes' (set trees c (Some (tip leaf)))
  first_planted classes' c leaf n is within has none changes =
      replanted key scale forks forks spare spare room roots classes classes' trees c (Some (Leaf leaf)) (Some (tip leaf)) are (record {
        within = within;
        planted = (refl, tt, λ l same. ap (λ m. class_in scale (key m)) same ∙ ap (class_in scale) has ∙ sym is);
        long = refl;
        others = λ d t other there k in_t. refl;
        classes_long = changes.length;
        told = changes.changed;
        told_others = changes.others;
        counted = ap (λ (o : Option Tree). length spare + used o) (sym none);
        distinct = are.distinct;
        vacant = All-weaker (IsVacant forks trees) (IsOutside forks trees c (Some (tip leaf)))
            (λ k vacant. (vacant.0, λ t same in_t. tip_free k t same in_t, λ d t other there in_t. vacant.1 d t there in_t)) spare are.vacant;
      })
    where
      tip_free : (k : ℕ) (t : Tree) → Some (tip leaf) ≡ Some t → HasFork k t → ⊥
      tip_free k t same in_t = let none : HasFork k (tip leaf) = subst (HasFork k) (sym (same_Some _ _ same)) in_t in none

  pub slot_vacant : (spare' : List ℕ) (slot : ℕ) → spare ≡ spare' ++ slot ∷ [] → IsVacant forks trees slot
  slot_vacant spare' slot was = (All-pop (IsVacant forks trees) spare spare' (Some slot) was are.vacant).1

  pub beside_can : (spare' : List ℕ) (slot c : ℕ) (node : Node) (t : Tree) (n bit : ℕ) → spare ≡ spare' ++ slot ∷ [] → root_at roots c ≡ Some node → tree_at trees c ≡ Some t → IsSplit key t n bit → bit < 128
      → CanGrow key (slice_get forks) 128 node t n bit slot
  beside_can spare' slot c node t n bit was rooted is split below =
      let there = tree_there key scale forks spare room roots classes trees are c node rooted in
      let same = same_Some _ _ (sym there.is ∙ is) in
      let free = slot_vacant spare' slot was in
      record {
        laid = subst (Lays (slice_get forks) 128 node) same there.laid;
        sorted = split.sorted;
        above = split.above;
        differs = split.differs;
        below = below;
        vacant = λ has. free.1 c t is has;
      }

  pub beside_planted : (forks' : List Fork) (spare' : List ℕ) (slot c : ℕ) (node node' : Node) (t : Tree) (n bit leaf : ℕ) → spare ≡ spare' ++ slot ∷ [] → root_at roots c ≡ Some node
      → tree_at trees c ≡ Some t → IsSplit key t n bit → c ≡ class_in scale n → c < length roots → key leaf ≡ n → length forks' ≡ length forks
      → HasGrown (slice_get forks) (slice_get forks') 128 node' t (grown n bit leaf slot t) slot
      → AreTrees key scale forks' spare' room (set roots c (Some node')) classes (set trees c (Some (grown n bit leaf slot t)))
  beside_planted forks' spare' slot c node node' t n bit leaf was rooted is split class within has long grew =
      replanted key scale forks forks' spare spare' room roots classes classes trees c (Some node') (Some (grown n bit leaf slot t)) are (record {
        within = within;
        planted = (grew.laid, sorted_grown key t n bit leaf slot split.sorted split.above split.differs has, λ l in_new. kept_class l (leaf_grown n bit leaf slot t l in_new));
        long = long;
        others = λ d u other there k in_u.
            grew.others k (λ in_t. classes_apart key scale forks spare room roots classes trees are d c u t k other there is in_u in_t)
            (λ same. free.1 d u there (subst (λ j. HasFork j u) same in_u));
        classes_long = refl;
        told = are.told c ∙ ap (λ (o : Option Node). is_some o) rooted;
        told_others = λ d other. refl;
        counted = (let a = length-append spare' (slot ∷ []) in let b = ap length was in let e = ap used is in let g = grown_count n bit leaf slot t in omega arith);
        distinct = distinct_front spare' slot whole;
        vacant = All-from_get_or (IsOutside forks trees c (Some (grown n bit leaf slot t))) spare' 0 (λ i inside. outside (get_or spare' i 0)
            (All-get_or (IsVacant forks trees) spare' i 0 inside ((All-pop (IsVacant forks trees) spare spare' (Some slot) was are.vacant).0))
            (All-get_or (λ k. k ≢ slot) spare' i 0 inside (apart_last spare' slot whole)));
      })
    where
      there : (node : Node) × (root_at roots c ≡ Some node) × TreeAt key (slice_get forks) scale c node (tree_at trees c)
      there = root_there key scale forks spare room roots classes trees are c t is

      free : IsVacant forks trees slot
      free = slot_vacant spare' slot was

      whole : AllPairs (λ a b. a ≢ b) (spare' ++ slot ∷ [])
      whole = subst (λ (xs : List ℕ). AllPairs (λ a b. a ≢ b) xs) was are.distinct

      kept_class : (l : ℕ) → HasLeaf l t ⊎ (l ≡ leaf) → class_in scale (key l) ≡ c
      kept_class l (inr same) = ap (λ m. class_in scale (key m)) same ∙ ap (class_in scale) has ∙ sym class
      kept_class l (inl in_t) = (there.2).kept l (subst (HasLeaf l) (sym (same_Some _ _ (sym (there.2).is ∙ is))) in_t)

      outside : (k : ℕ) → IsVacant forks trees k → k ≢ slot → IsOutside forks trees c (Some (grown n bit leaf slot t)) k
      outside k vacant apart = (
        vacant.0,
        λ u same in_u. elim (fork_grown n bit leaf slot t k (subst (HasFork k) (sym (same_Some _ _ same)) in_u)) as (λ _. ⊥) [ inl in_t ↦ vacant.1 c t is in_t | inr e ↦ apart e ],
        λ d u other here in_u. vacant.1 d u here in_u,
      )
