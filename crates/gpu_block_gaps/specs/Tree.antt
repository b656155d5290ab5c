-- A tree over the bits of keys, and how it lies in slots.
use Rattle.std.specs.Prelude.{◌≡◌, ◌≢◌, ℕ, ◌+◌, ◌*◌, ◌^◌, ◌/◌, ◌<◌, ◌⊎◌, List, [], ◌∷◌, ◌++◌, Option, Some, Bool, true, false, cond, nat_lt, All}
use Rattle.gpu_block_gaps.specs.declared.tree.Node.{Node}
use Rattle.gpu_block_gaps.specs.declared.tree.Node.TheVariants.{Leaf, Branch}
use Rattle.gpu_block_gaps.specs.declared.tree.Fork.{Fork}
use Rattle.gpu_block_gaps.specs.declared.tree.Place.{Place}
use Rattle.gpu_block_gaps.specs.declared.tree.Place.TheVariants.{Before, After}
use Rattle.gpu_block_gaps.specs.Key.{bit_of}

-- a leaf with its record, or a fork with its slot, its bit, and what stands along its branches
pub data Tree : Type 0 where
  tip : ℕ → Tree
  fork : ℕ → ℕ → Tree → Tree → Tree

-- what each slot has
abbrev pub Slots : Type 0
Slots = ℕ → Option Fork

-- the slots have the tree from that node on, with bits below `top` that fall along each branch
abbrev pub Lays : Slots → ℕ → Node → Tree → Type 0
Lays slots top node (tip leaf) = node ≡ Leaf leaf
Lays slots top node (fork slot bit x y) =
    (node ≡ Branch slot) × (bit < top) × (zero : Node) × (one : Node) × (slots slot ≡ Some (record { zero = zero; one = one; bit = bit }))
    × Lays slots bit zero x × Lays slots bit one y

-- the tree has that leaf
abbrev pub HasLeaf : ℕ → Tree → Type 0
HasLeaf leaf (tip other) = leaf ≡ other
HasLeaf leaf (fork slot bit x y) = HasLeaf leaf x ⊎ HasLeaf leaf y

-- the tree has a fork in that slot
abbrev pub HasFork : ℕ → Tree → Type 0
HasFork at (tip leaf) = ⊥
HasFork at (fork slot bit x y) = (at ≡ slot) ⊎ (HasFork at x ⊎ HasFork at y)

-- from that bit on, the keys of all leaves are one number
abbrev pub Agree : (ℕ → ℕ) → ℕ → ℕ → Tree → Type 0
Agree key bit q (tip leaf) = key leaf / 2 ^ bit ≡ q
Agree key bit q (fork slot b x y) = Agree key bit q x × Agree key bit q y

-- below each fork the keys agree above its bit, which is 0 along one branch and 1 along the other
abbrev pub Sorted : (ℕ → ℕ) → Tree → Type 0
Sorted key (tip leaf) = Unit {0}
Sorted key (fork slot bit x y) = (q : ℕ) × Agree key bit (2 * q) x × Agree key bit (2 * q + 1) y × Sorted key x × Sorted key y

-- the leaves from left to right
abbrev pub leaves_of : Tree → List ℕ
leaves_of (tip leaf) = leaf ∷ []
leaves_of (fork slot bit x y) = leaves_of x ++ leaves_of y

abbrev pub first_leaf : Tree → ℕ
first_leaf (tip leaf) = leaf
first_leaf (fork slot bit x y) = first_leaf x

abbrev pub last_leaf : Tree → ℕ
last_leaf (tip leaf) = leaf
last_leaf (fork slot bit x y) = last_leaf y

-- the leaf to which the bits of a number lead
abbrev pub near : ℕ → Tree → ℕ
near n (tip leaf) = leaf
near n (fork slot bit x y) = cond (bit_of n bit) (near n y) (near n x)

-- the leaf beside a tree, by a fork for that bit of the number
abbrev pub joined : (n bit leaf slot : ℕ) → Tree → Tree
joined n bit leaf slot t = cond (bit_of n bit) (fork slot bit t (tip leaf)) (fork slot bit (tip leaf) t)

-- the leaf beside the part of the tree below which no fork has so high a bit
abbrev pub grown : (n bit leaf slot : ℕ) → Tree → Tree
grown n bit leaf slot (tip other) = joined n bit leaf slot (tip other)
grown n bit leaf slot (fork at b x y) =
    cond (nat_lt bit b) (cond (bit_of n b) (fork at b x (grown n bit leaf slot y)) (fork at b (grown n bit leaf slot x) y)) (joined n bit leaf slot (fork at b x y))

-- the number differs in that bit from the key of the leaf to which its bits lead, and in none above it, and the slot is not the tree's
pub record CanGrow (key : ℕ → ℕ) (slots : Slots) (top : ℕ) (node : Node) (t : Tree) (n bit slot : ℕ) : Type 0 where
  pub laid : Lays slots top node t
  pub sorted : Sorted key t
  pub above : n / 2 ^ (bit + 1) ≡ key (near n t) / 2 ^ (bit + 1)
  pub differs : n / 2 ^ bit ≢ key (near n t) / 2 ^ bit
  pub below : bit < top
  pub vacant : HasFork slot t → ⊥

-- the slots have the tree from that node on, and each slot of neither what it had
pub record HasGrown (old new : Slots) (top : ℕ) (node : Node) (before after : Tree) (slot : ℕ) : Type 0 where
  pub laid : Lays new top node after
  pub others : (k : ℕ) → (HasFork k before → ⊥) → k ≢ slot → new k ≡ old k

-- the leaf stands in the list behind those of lesser keys and before those of greater ones
pub record IsInserted (key : ℕ → ℕ) (n leaf : ℕ) (old new : List ℕ) : Type 0 where
  pub front : List ℕ
  pub back : List ℕ
  pub was : old ≡ front ++ back
  pub is : new ≡ front ++ leaf ∷ back
  pub lesser : All (λ l. key l < n) front
  pub greater : All (λ l. n < key l) back

abbrev pub is_tip : Tree → Bool
is_tip (tip leaf) = true
is_tip (fork slot bit x y) = false

-- the tree without the leaf to which the bits of a number lead, and without the fork above that
abbrev pub pruned : (n : ℕ) → Tree → Tree
pruned n (tip leaf) = tip leaf
pruned n (fork at b x y) = cond (bit_of n b) (cond (is_tip y) x (fork at b x (pruned n y))) (cond (is_tip x) y (fork at b (pruned n x) y))

-- the slot of the fork above the leaf to which the bits of a number lead
abbrev pub freed : (n : ℕ) → Tree → ℕ
freed n (tip leaf) = 0
freed n (fork at b x y) = cond (bit_of n b) (cond (is_tip y) at (freed n y)) (cond (is_tip x) at (freed n x))

-- the slots have the tree without that leaf, and each slot outside it what it had
pub record HasPruned (old new : Slots) (top : ℕ) (node : Node) (t : Tree) (n slot : ℕ) : Type 0 where
  pub laid : Lays new top node (pruned n t)
  pub unused : slot ≡ freed n t
  pub others : (k : ℕ) → (HasFork k t → ⊥) → new k ≡ old k

-- the leaf is the first of those with greater keys
pub record IsBefore (key : ℕ → ℕ) (n : ℕ) (leaves : List ℕ) (leaf : ℕ) : Type 0 where
  pub front : List ℕ
  pub back : List ℕ
  pub was : leaves ≡ front ++ leaf ∷ back
  pub lesser : All (λ l. key l < n) front
  pub greater : All (λ l. n < key l) (leaf ∷ back)

-- the leaf is the last of those with lesser keys
pub record IsAfter (key : ℕ → ℕ) (n : ℕ) (leaves : List ℕ) (leaf : ℕ) : Type 0 where
  pub front : List ℕ
  pub back : List ℕ
  pub was : leaves ≡ (front ++ leaf ∷ []) ++ back
  pub lesser : All (λ l. key l < n) (front ++ leaf ∷ [])
  pub greater : All (λ l. n < key l) back

-- the place of a number among the keys of leaves that have another one
abbrev pub IsPlace : (ℕ → ℕ) → ℕ → List ℕ → Place → Type 0
IsPlace key n leaves (Before leaf) = IsBefore key n leaves leaf
IsPlace key n leaves (After leaf) = IsAfter key n leaves leaf

-- the number differs in that bit from the key of the leaf to which its bits lead, and in none above it
pub record IsSplit (key : ℕ → ℕ) (t : Tree) (n bit : ℕ) : Type 0 where
  pub sorted : Sorted key t
  pub above : n / 2 ^ (bit + 1) ≡ key (near n t) / 2 ^ (bit + 1)
  pub differs : n / 2 ^ bit ≢ key (near n t) / 2 ^ bit

-- the leaf is gone
pub record IsTaken (leaf : ℕ) (old new : List ℕ) : Type 0 where
  pub front : List ℕ
  pub back : List ℕ
  pub was : old ≡ front ++ leaf ∷ back
  pub is : new ≡ front ++ back
