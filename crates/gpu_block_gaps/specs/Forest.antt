-- A tree for each class, all in one row of slots.
use Rattle.std.specs.Prelude.{◌≡◌, ◌≢◌, ℕ, ◌+◌, ◌*◌, ◌^◌, ◌/◌, ◌<◌, ◌≤◌, ◌⊎◌, List, length, slice_index_or, Option, Some, None, is_some, All}
use Rattle.std.specs.List.{AllPairs, slice_get, sum_by}
use Rattle.gpu_rows.specs.Rows.{row_count}
use Rattle.gpu_block_gaps.specs.declared.class.Scale.{Scale}
use Rattle.gpu_block_gaps.specs.declared.tree.Node.{Node}
use Rattle.gpu_block_gaps.specs.declared.tree.Fork.{Fork}
use Rattle.gpu_block_gaps.specs.declared.forest.Forest.{Forest}
use Rattle.gpu_block_gaps.specs.Class.{class_on, IsFew}
use Rattle.gpu_block_gaps.specs.ClassSet.{is_in}
use Rattle.gpu_block_gaps.specs.Tree.{Tree, tip, fork, Slots, Lays, HasLeaf, HasFork, Sorted, first_leaf}

-- the class of a key, which its length tells
abbrev pub class_in : (scale : Scale) (n : ℕ) → ℕ
class_in scale n = class_on scale (n / 2 ^ 64)

-- the tree of a class, if it has one
abbrev pub tree_at : List (Option Tree) → ℕ → Option Tree
tree_at trees c = slice_index_or trees c None

abbrev pub root_at : List (Option Node) → ℕ → Option Node
root_at roots c = slice_index_or roots c None

-- the root leads to the tree, whose keys are of that class, or there is neither
abbrev pub Roots : (ℕ → ℕ) → Slots → (scale : Scale) (c : ℕ) → Option Node → Option Tree → Type 0
Roots key slots scale c None None = Unit {0}
Roots key slots scale c None (Some t) = ⊥
Roots key slots scale c (Some node) None = ⊥
Roots key slots scale c (Some node) (Some t) = Lays slots 128 node t × Sorted key t × ((leaf : ℕ) → HasLeaf leaf t → class_in scale (key leaf) ≡ c)

-- how many forks a tree has
abbrev pub forks_in : Tree → ℕ
forks_in (tip leaf) = 0
forks_in (fork slot bit x y) = forks_in x + forks_in y + 1

abbrev pub used : Option Tree → ℕ
used None = 0
used (Some t) = forks_in t

-- how many leaves a tree has
abbrev pub leaf_count : Option Tree → ℕ
leaf_count None = 0
leaf_count (Some t) = forks_in t + 1

-- no tree has a fork in that slot
abbrev pub IsVacant : List Fork → List (Option Tree) → ℕ → Type 0
IsVacant forks trees k = (k < length forks) × ((c : ℕ) (t : Tree) → tree_at trees c ≡ Some t → HasFork k t → ⊥)

-- the roots lead to the trees, the set has the classes that have one, and the spare slots are all that no tree has
pub record AreTrees (key : ℕ → ℕ) (scale : Scale) (forks : List Fork) (spare : List ℕ) (room : ℕ) (roots : List (Option Node)) (classes : List ℕ) (trees : List (Option Tree)) : Type 0 where
  pub few : IsFew scale
  pub wide : 0 < length roots → scale.last < length roots
  pub rooted : length trees ≡ length roots
  pub told_all : length roots ≤ length classes * 64
  pub lead : (c : ℕ) → Roots key (slice_get forks) scale c (root_at roots c) (tree_at trees c)
  pub told : (c : ℕ) → is_in classes c ≡ is_some (root_at roots c)
  pub counted : length spare + sum_by used trees ≡ length forks
  pub fits : length forks ≤ room
  pub short : length forks ≤ 2 ^ 31
  pub distinct : AllPairs (λ a b. a ≢ b) spare
  pub vacant : All (IsVacant forks trees) spare

-- the forest has those trees, one or none for each class
abbrev pub IsForest : (ℕ → ℕ) → Forest → List (Option Tree) → Type 0
IsForest key f trees = AreTrees key f.scale f.forks.items f.spare.items f.spare.capacity f.roots.items f.classes trees

-- each class has a place for a root
abbrev pub IsWide : Forest → Type 0
IsWide f = f.scale.last < length f.roots.items

-- as many slots and classes as before
abbrev pub KeepsRoom : Forest → Forest → Type 0
KeepsRoom old new = (new.scale ≡ old.scale) × (row_count new.forks ≡ row_count old.forks) × (length new.roots.items ≡ length old.roots.items)

-- that class has a tree
abbrev pub HasTreeIn : Forest → ℕ → Type 0
HasTreeIn f c = (key : ℕ → ℕ) × (trees : List (Option Tree)) × IsForest key f trees × (t : Tree) × (tree_at trees c ≡ Some t)

-- the class of that key has a tree
abbrev pub HasTree : Forest → ℕ → Type 0
HasTree f n = HasTreeIn f (class_in f.scale n)

-- the leaf is the first one of the first later class that has a tree
pub record IsFirstLater (trees : List (Option Tree)) (class leaf : ℕ) : Type 0 where
  pub next : ℕ
  pub tree : Tree
  pub later : class < next
  pub is : tree_at trees next ≡ Some tree
  pub first : leaf ≡ first_leaf tree
  pub none : (c : ℕ) → class < c → c < next → tree_at trees c ≡ None

-- the tree has one leaf more
pub record AddsLeaf (leaf : ℕ) (old new : Tree) : Type 0 where
  pub only : (l : ℕ) → HasLeaf l new → HasLeaf l old ⊎ (l ≡ leaf)
  pub others : (l : ℕ) → HasLeaf l old → HasLeaf l new
  pub there : HasLeaf leaf new
  pub count : forks_in new ≡ forks_in old + 1

-- the tree has lost a leaf, and has all the others
pub record IsWithout (leaf : ℕ) (old new : Tree) : Type 0 where
  pub only : (l : ℕ) → HasLeaf l new → HasLeaf l old
  pub gone : HasLeaf leaf new → ⊥
  pub others : (l : ℕ) → HasLeaf l old → HasLeaf l new ⊎ (l ≡ leaf)
  pub count : forks_in old ≡ forks_in new + 1

-- the leaf was the last one, or the tree has lost it
abbrev pub LosesLeaf : ℕ → Tree → Option Tree → Type 0
LosesLeaf leaf old None = old ≡ tip leaf
LosesLeaf leaf old (Some new) = IsWithout leaf old new

-- each class has the tree that it had, and there are as many leaves
abbrev pub KeepsTrees : List (Option Tree) → List (Option Tree) → Type 0
KeepsTrees old new = ((c : ℕ) → tree_at new c ≡ tree_at old c) × (sum_by leaf_count new ≡ sum_by leaf_count old)
