-- Nodes as numbers of 32 bits.
use Rattle.std.proofs.Common.{◌≡◌, ◌≢◌, ℕ, ◌+◌, ◌-◌, ◌^◌, ◌<◌, ◌≤◌, Option, Some, None, Bool, true, false, cond, ◌⊎◌, inl, inr, sym, ap, ◌∙◌}
use Rattle.std.specs.Prelude.{nat_lt, nat_eq}
use Rattle.std.proofs.Math.Nat.{add-sub_of_le}
use Rattle.std.proofs.lemmas.Bool.{cases_lt, lt-ltb, le-ltb}
use Rattle.std.proofs.lemmas.Bool.Decides.{eqb_tells}
use Rattle.gpu_block_gaps.specs.declared.tree.Node.{Node}
use Rattle.gpu_block_gaps.specs.declared.tree.Node.TheVariants.{Leaf, Branch}

-- the number of a leaf has the top bit
abbrev pub number_of : Node → ℕ
number_of (Leaf leaf) = 2 ^ 31 + leaf
number_of (Branch slot) = slot

abbrev pub node_of : ℕ → Node
node_of n = cond (nat_lt n (2 ^ 31)) (Branch n) (Leaf (n - 2 ^ 31))

-- the number of no node
abbrev pub no_node : ℕ
no_node = 2 ^ 32 - 1

-- a node, if there is one, as a number
abbrev pub number_if : Option Node → ℕ
number_if None = no_node
number_if (Some node) = number_of node

abbrev pub node_if : ℕ → Option Node
node_if n = cond (nat_eq n no_node) None (Some (node_of n))

-- the node has a number of 32 bits, which isn't that of no node
abbrev pub IsSmall : Node → Type 0
IsSmall (Leaf leaf) = leaf + 1 < 2 ^ 31
IsSmall (Branch slot) = slot < 2 ^ 31

-- ---- numbers and nodes tell each other

-- one of the two nodes that a number may be
abbrev pub either : ℕ → Bool → Node
either n b = cond b (Branch n) (Leaf (n - 2 ^ 31))

pub low_node : (n : ℕ) → n < 2 ^ 31 → node_of n ≡ Branch n
low_node n lt = ap (either n) (lt-ltb n (2 ^ 31) lt)

pub high_node : (n : ℕ) → 2 ^ 31 ≤ n → node_of n ≡ Leaf (n - 2 ^ 31)
high_node n ge = ap (either n) (le-ltb n (2 ^ 31) ge)

pub number_again : (n : ℕ) → number_of (node_of n) ≡ n
number_again n = by_order (cases_lt n (2 ^ 31))
  where
    by_order : (n < 2 ^ 31) ⊎ (2 ^ 31 ≤ n) → number_of (node_of n) ≡ n
    by_order (inl lt) = ap number_of (low_node n lt)
    by_order (inr ge) = ap number_of (high_node n ge) ∙ add-sub_of_le ge

pub number_if_again : (n : ℕ) → number_if (node_if n) ≡ n
number_if_again n = by_test (eqb_tells n no_node)
  where
    by_test : ((nat_eq n no_node ≡ true) × (n ≡ no_node)) ⊎ ((nat_eq n no_node ≡ false) × (n ≢ no_node)) → number_if (node_if n) ≡ n
    by_test (inl is) = ap (λ b. number_if (cond b None (Some (node_of n)))) is.0 ∙ sym is.1
    by_test (inr other) = ap (λ b. number_if (cond b None (Some (node_of n)))) other.0 ∙ number_again n
