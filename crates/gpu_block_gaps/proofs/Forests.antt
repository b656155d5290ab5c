-- Trees of several classes in one row of slots.
use Rattle.std.proofs.Common.{◌≡◌, ◌≢◌, ℕ, ◌+◌, ◌/◌, ◌^◌, ◌<◌, ◌≤◌, List, length, set, Option, Some, None, is_some, true, false, All, ◌⊎◌, inl, inr, refl, sym, ap, subst, ◌∙◌, arith}
use Rattle.std.specs.List.{slice_get, AllPairs}
use Rattle.std.proofs.lemmas.List.Sums.{sum_by-set}
use Rattle.std.proofs.lemmas.List.Elements.{All-weaker}
use Rattle.std.proofs.lemmas.Bool.{cases_eq, cases_lt}
use Rattle.std.proofs.lemmas.Option.{same_Some}
use Rattle.gpu_block_gaps.specs.declared.class.Scale.{Scale}
use Rattle.std.proofs.Math.Nat.{min-le_right}
use Rattle.gpu_block_gaps.specs.Class.{class_number}
use Rattle.gpu_block_gaps.specs.ClassSet.{is_in}
use Rattle.std.proofs.lemmas.List.{get_or_past, get_or-set_same, get_or-set_other, length-set}
use Rattle.gpu_block_gaps.specs.declared.tree.Node.{Node}
use Rattle.gpu_block_gaps.specs.declared.tree.Fork.{Fork}
use Rattle.gpu_block_gaps.specs.Tree.{Tree, Slots, Lays, HasLeaf, HasFork, Sorted}
use Rattle.gpu_block_gaps.specs.Forest.{class_in, tree_at, root_at, Roots, AreTrees, IsVacant, used}
use Rattle.gpu_block_gaps.proofs.Shapes.{common_leaf, lays_kept}

-- the tree that a root leads to
pub record TreeAt (key : ℕ → ℕ) (slots : Slots) (scale : Scale) (c : ℕ) (node : Node) (o : Option Tree) : Type 0 where
  pub tree : Tree
  pub is : o ≡ Some tree
  pub laid : Lays slots 128 node tree
  pub sorted : Sorted key tree
  pub kept : (leaf : ℕ) → HasLeaf leaf tree → class_in scale (key leaf) ≡ c

pub tree_of_root : (key : ℕ → ℕ) (slots : Slots) (scale : Scale) (c : ℕ) (r : Option Node) (o : Option Tree) (node : Node) → Roots key slots scale c r o → r ≡ Some node → TreeAt key slots scale c node o
tree_of_root key slots scale c None o node rooted is = absurd (cc)
tree_of_root key slots scale c (Some m) None node rooted is = absurd rooted
tree_of_root key slots scale c (Some m) (Some t) node rooted is =
    let same : m ≡ node = cc in
    record { tree = t; is = refl; laid = subst (λ (n : Node). Lays slots 128 n t) same rooted.0; sorted = rooted.1; kept = rooted.2 }

pub none_of_root : (key : ℕ → ℕ) (slots : Slots) (scale : Scale) (c : ℕ) (r : Option Node) (o : Option Tree) → Roots key slots scale c r o → r ≡ None → o ≡ None
none_of_root key slots scale c None None rooted is = refl
none_of_root key slots scale c None (Some t) rooted is = absurd rooted
none_of_root key slots scale c (Some m) o rooted is = absurd (cc)

pub root_of_tree : (key : ℕ → ℕ) (slots : Slots) (scale : Scale) (c : ℕ) (r : Option Node) (o : Option Tree) (t : Tree) → Roots key slots scale c r o → o ≡ Some t
    → (node : Node) × (r ≡ Some node) × TreeAt key slots scale c node o
root_of_tree key slots scale c None None t rooted is = absurd (cc)
root_of_tree key slots scale c None (Some u) t rooted is = absurd rooted
root_of_tree key slots scale c (Some m) None t rooted is = absurd rooted
root_of_tree key slots scale c (Some m) (Some u) t rooted is = (m, refl, tree_of_root key slots scale c (Some m) (Some u) m rooted refl)

unset_none : (o : Option Node) → is_some o ≡ false → o ≡ None
unset_none None is = refl
unset_none (Some x) is = absurd (cc)

set_some : (o : Option Node) → is_some o ≡ true → (node : Node) × (o ≡ Some node)
set_some None is = absurd (cc)
set_some (Some x) is = (x, refl)

module _ (key : ℕ → ℕ) (scale : Scale) (forks : List Fork) (spare : List ℕ) (room : ℕ) (roots : List (Option Node)) (classes : List ℕ) (trees : List (Option Tree))
    (are : AreTrees key scale forks spare room roots classes trees) where
  pub tree_there : (c : ℕ) (node : Node) → root_at roots c ≡ Some node → TreeAt key (slice_get forks) scale c node (tree_at trees c)
  tree_there c node is = tree_of_root key (slice_get forks) scale c (root_at roots c) (tree_at trees c) node (are.lead c) is

  pub none_there : (c : ℕ) → root_at roots c ≡ None → tree_at trees c ≡ None
  none_there c is = none_of_root key (slice_get forks) scale c (root_at roots c) (tree_at trees c) (are.lead c) is

  pub root_there : (c : ℕ) (t : Tree) → tree_at trees c ≡ Some t → (node : Node) × (root_at roots c ≡ Some node) × TreeAt key (slice_get forks) scale c node (tree_at trees c)
  root_there c t is = root_of_tree key (slice_get forks) scale c (root_at roots c) (tree_at trees c) t (are.lead c) is

  -- a class that isn't in the set has no tree, and one that is has a root
  pub none_outside : (c : ℕ) → is_in classes c ≡ false → tree_at trees c ≡ None
  none_outside c out = none_there c (unset_none (root_at roots c) (sym (are.told c) ∙ out))

  pub some_inside : (c : ℕ) → is_in classes c ≡ true → (node : Node) × (root_at roots c ≡ Some node)
  some_inside c inside = set_some (root_at roots c) (sym (are.told c) ∙ inside)

  pub class_inside : (c : ℕ) → is_in classes c ≡ true → c < length roots
  class_inside c inside = by_order (cases_lt c (length roots))
    where
      by_order : (c < length roots) ⊎ (length roots ≤ c) → c < length roots
      by_order (inl lt) = lt
      by_order (inr past) = absurd (let some = (some_inside c inside).1 in let none = get_or_past roots c None past in cc)

  -- trees of two classes have no fork in common
  pub classes_apart : (c d : ℕ) (t u : Tree) (k : ℕ) → c ≢ d → tree_at trees c ≡ Some t → tree_at trees d ≡ Some u → HasFork k t → HasFork k u → ⊥
  classes_apart c d t u k other is_t is_u in_t in_u =
      let a = root_there c t is_t in
      let b = root_there d u is_u in
      let same_t = same_Some _ _ (sym a.2.is ∙ is_t) in
      let same_u = same_Some _ _ (sym b.2.is ∙ is_u) in
      let laid_t = subst (Lays (slice_get forks) 128 a.0) same_t a.2.laid in
      let laid_u = subst (Lays (slice_get forks) 128 b.0) same_u b.2.laid in
      let leaf = common_leaf (slice_get forks) 128 128 a.0 b.0 t u k laid_t laid_u in_t in_u in
      let class_t = a.2.kept leaf.0 (subst (HasLeaf leaf.0) (sym same_t) leaf.1) in
      let class_u = b.2.kept leaf.0 (subst (HasLeaf leaf.0) (sym same_u) leaf.2) in
      other (sym class_t ∙ class_u)

-- no class is behind the last one
pub class_last : (scale : Scale) (n : ℕ) → class_in scale n ≤ scale.last
class_last scale n = min-le_right (class_number scale.digits (n / 2 ^ 64)) scale.last

-- a class with a root has a place
pub root_within : (roots : List (Option Node)) (c : ℕ) (node : Node) → root_at roots c ≡ Some node → c < length roots
root_within roots c node is = by_order (cases_lt c (length roots))
  where
    by_order : (c < length roots) ⊎ (length roots ≤ c) → c < length roots
    by_order (inl lt) = lt
    by_order (inr past) = absurd (let none = get_or_past roots c None past in cc)

-- ---- another tree in a class

-- a change of slots that the tree doesn't have
pub roots_kept : (key : ℕ → ℕ) (old new : Slots) (scale : Scale) (c : ℕ) (r : Option Node) (o : Option Tree) → ((t : Tree) → o ≡ Some t → (k : ℕ) → HasFork k t → new k ≡ old k)
    → Roots key old scale c r o → Roots key new scale c r o
roots_kept key old new scale c None None same rooted = tt
roots_kept key old new scale c None (Some t) same rooted = absurd rooted
roots_kept key old new scale c (Some m) None same rooted = absurd rooted
roots_kept key old new scale c (Some m) (Some t) same rooted = (lays_kept old new 128 m t (same t refl) rooted.0, rooted.1, rooted.2)

-- neither the class's new tree nor the tree of another class has the slot
abbrev pub IsOutside : List Fork → List (Option Tree) → ℕ → Option Tree → ℕ → Type 0
IsOutside forks trees c o k = (k < length forks) × ((t : Tree) → o ≡ Some t → HasFork k t → ⊥) × ((d : ℕ) (t : Tree) → d ≢ c → tree_at trees d ≡ Some t → HasFork k t → ⊥)

pub record Replants (key : ℕ → ℕ) (scale : Scale) (forks forks' : List Fork) (spare spare' : List ℕ) (room : ℕ) (roots : List (Option Node)) (classes classes' : List ℕ) (trees : List (Option Tree))
    (c : ℕ) (r : Option Node) (o : Option Tree) : Type 0 where
  pub within : c < length roots
  pub planted : Roots key (slice_get forks') scale c r o
  pub long : length forks' ≡ length forks
  pub others : (d : ℕ) (t : Tree) → d ≢ c → tree_at trees d ≡ Some t → (k : ℕ) → HasFork k t → slice_get forks' k ≡ slice_get forks k
  pub classes_long : length classes' ≡ length classes
  pub told : is_in classes' c ≡ is_some r
  pub told_others : (d : ℕ) → d ≢ c → is_in classes' d ≡ is_in classes d
  pub counted : length spare' + used o ≡ length spare + used (tree_at trees c)
  pub distinct : AllPairs (λ a b. a ≢ b) spare'
  pub vacant : All (IsOutside forks trees c o) spare'

pub replanted : (key : ℕ → ℕ) (scale : Scale) (forks forks' : List Fork) (spare spare' : List ℕ) (room : ℕ) (roots : List (Option Node)) (classes classes' : List ℕ) (trees : List (Option Tree))
    (c : ℕ) (r : Option Node) (o : Option Tree) → AreTrees key scale forks spare room roots classes trees
    → Replants key scale forks forks' spare spare' room roots classes classes' trees c r o
    → AreTrees key scale forks' spare' room (set roots c r) classes' (set trees c o)
replanted key scale forks forks' spare spare' room roots classes classes' trees c r o are new = record {
  few = are.few;
  wide = subst (λ n. 0 < n → scale.last < n) (sym long_roots) are.wide;
  rooted = length-set trees c o ∙ are.rooted ∙ sym long_roots;
  told_all = (let a = are.told_all in let b = long_roots in let e = new.classes_long in omega arith);
  lead = λ d. lead_at d (cases_eq d c);
  told = λ d. told_at d (cases_eq d c);
  counted = (let a = are.counted in let b = new.counted in let e = new.long in let s = sum_by-set used trees c o None inside in omega arith);
  fits = subst (λ n. n ≤ room) (sym new.long) are.fits;
  short = subst (λ n. n ≤ 2 ^ 31) (sym new.long) are.short;
  distinct = new.distinct;
  vacant = All-weaker (IsOutside forks trees c o) (IsVacant forks' (set trees c o)) (λ k is. (subst (λ n. k < n) (sym new.long) is.0, λ d t there has. vacant_at k d t there has is.1 is.2 (cases_eq d c))) spare' new.vacant;
}
  where
    long_roots : length (set roots c r) ≡ length roots
    long_roots = length-set roots c r

    inside : c < length trees
    inside = subst (λ n. c < n) (sym are.rooted) new.within

    tree_same : tree_at (set trees c o) c ≡ o
    tree_same = get_or-set_same trees c o None inside

    root_same : root_at (set roots c r) c ≡ r
    root_same = get_or-set_same roots c r None new.within

    lead_at : (d : ℕ) → (d ≡ c) ⊎ (d ≢ c) → Roots key (slice_get forks') scale d (root_at (set roots c r) d) (tree_at (set trees c o) d)
    lead_at d (inl same) =
        subst (λ e. Roots key (slice_get forks') scale e (root_at (set roots c r) e) (tree_at (set trees c o) e)) (sym same)
        (subst (λ (n : Option Node). Roots key (slice_get forks') scale c n (tree_at (set trees c o) c)) (sym root_same)
        (subst (λ (t : Option Tree). Roots key (slice_get forks') scale c r t) (sym tree_same) new.planted))
    lead_at d (inr other) =
        let kept = roots_kept key (slice_get forks) (slice_get forks') scale d (root_at roots d) (tree_at trees d) (λ t is k has. new.others d t other is k has) (are.lead d) in
        subst (λ (n : Option Node). Roots key (slice_get forks') scale d n (tree_at (set trees c o) d)) (sym (get_or-set_other roots c d r None other))
        (subst (λ (t : Option Tree). Roots key (slice_get forks') scale d (root_at roots d) t) (sym (get_or-set_other trees c d o None other)) kept)

    told_at : (d : ℕ) → (d ≡ c) ⊎ (d ≢ c) → is_in classes' d ≡ is_some (root_at (set roots c r) d)
    told_at d (inl same) = ap (is_in classes') same ∙ new.told ∙ sym (ap (λ e. is_some (root_at (set roots c r) e)) same ∙ ap (λ (n : Option Node). is_some n) root_same)
    told_at d (inr other) = new.told_others d other ∙ are.told d ∙ sym (ap (λ (n : Option Node). is_some n) (get_or-set_other roots c d r None other))

    vacant_at : (k d : ℕ) (t : Tree) → tree_at (set trees c o) d ≡ Some t → HasFork k t → ((t : Tree) → o ≡ Some t → HasFork k t → ⊥)
        → ((d : ℕ) (t : Tree) → d ≢ c → tree_at trees d ≡ Some t → HasFork k t → ⊥) → (d ≡ c) ⊎ (d ≢ c) → ⊥
    vacant_at k d t there has here others (inl same) = here t (sym (ap (tree_at (set trees c o)) same ∙ tree_same) ∙ there) has
    vacant_at k d t there has here others (inr other) = others d t other (sym (get_or-set_other trees c d o None other) ∙ there) has
