-- The leaves of all trees in the order of their keys.
use Rattle.std.specs.Prelude.{◌≡◌, ℕ, ◌^◌, ◌<◌, ◌≤◌, ◌⊎◌, List, length, slice_index, Option, Some}
use Rattle.std.specs.List.{AllPairs, sum_by}
use Rattle.gpu_block_gaps.specs.declared.class.Scale.{Scale}
use Rattle.gpu_block_gaps.specs.Tree.{Tree, HasLeaf}
use Rattle.gpu_block_gaps.specs.Forest.{class_in, tree_at, leaf_count, forks_in}

-- the list has that number
abbrev pub IsIn : ℕ → List ℕ → Type 0
IsIn l xs = (k : ℕ) × (k < length xs) × (slice_index xs k ≡ l)

-- the tree of that class has the leaf
pub record HasIn (trees : List (Option Tree)) (c l : ℕ) : Type 0 where
  pub tree : Tree
  pub is : tree_at trees c ≡ Some tree
  pub has : HasLeaf l tree

-- the list has the leaves of all trees, and is in the order of their keys
pub record AreInOrder (key : ℕ → ℕ) (scale : Scale) (trees : List (Option Tree)) (order : List ℕ) : Type 0 where
  pub sorted : AllPairs (λ a b. key a < key b) order
  pub held : (c l : ℕ) → HasIn trees c l → IsIn l order
  pub holds : (l : ℕ) → IsIn l order → HasIn trees (class_in scale (key l)) l
  pub counted : sum_by leaf_count trees ≡ length order
  pub fits : (l : ℕ) → IsIn l order → key l < 2 ^ 128

-- the leaves before that place have lesser keys, and no other has
pub record IsPlaceIn (key : ℕ → ℕ) (order : List ℕ) (n place : ℕ) : Type 0 where
  pub within : place ≤ length order
  pub below : (k : ℕ) → k < place → key (slice_index order k) < n
  pub from : (k : ℕ) → place ≤ k → k < length order → n ≤ key (slice_index order k)

-- the leaf is the first of those whose key is not less
pub record IsFirstUp (key : ℕ → ℕ) (order : List ℕ) (n l : ℕ) : Type 0 where
  pub here : IsIn l order
  pub up : n ≤ key l
  pub least : (x : ℕ) → IsIn x order → n ≤ key x → key l ≤ key x

-- the leaf is the last of those whose key is less
pub record IsLastDown (key : ℕ → ℕ) (order : List ℕ) (n l : ℕ) : Type 0 where
  pub here : IsIn l order
  pub down : key l < n
  pub greatest : (x : ℕ) → IsIn x order → key x < n → key x ≤ key l

-- each key is less
abbrev pub AllDown : (ℕ → ℕ) → List ℕ → ℕ → Type 0
AllDown key order n = (x : ℕ) → IsIn x order → key x < n

-- the class has a tree with one leaf more
pub record Gains (trees : List (Option Tree)) (c leaf : ℕ) (new : Tree) : Type 0 where
  pub only : (l : ℕ) → HasLeaf l new → HasIn trees c l ⊎ (l ≡ leaf)
  pub others : (l : ℕ) → HasIn trees c l → HasLeaf l new
  pub there : HasLeaf leaf new
  pub count : forks_in new ≡ leaf_count (tree_at trees c)
