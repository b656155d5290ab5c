-- Nodes and their numbers tell each other.
use Rattle.std.proofs.Common.{◌≡◌, ℕ, ◌+◌, ◌-◌, ◌^◌, ◌<◌, ◌≤◌, ◌⊎◌, inl, inr, sym, ap, subst, ◌∙◌, arith}
use Rattle.std.proofs.lemmas.Bool.{cases_lt}
use Rattle.gpu_block_gaps.specs.declared.tree.Node.{Node}
use Rattle.gpu_block_gaps.specs.declared.tree.Node.TheVariants.{Leaf, Branch}
use Rattle.gpu_block_gaps.specs.Packed.{number_of, node_of, IsSmall, low_node, high_node}

pub node_again : (m : Node) → IsSmall m → node_of (number_of m) ≡ m
node_again (Leaf leaf) small = high_node (2 ^ 31 + leaf) (omega arith) ∙ ap (λ l. Leaf l) (let same : 2 ^ 31 + leaf - 2 ^ 31 ≡ leaf = omega arith in same)
node_again (Branch slot) small = low_node slot small

pub number_small : (m : Node) → IsSmall m → number_of m < 2 ^ 32 - 1
number_small (Leaf leaf) small = omega arith
number_small (Branch slot) small = omega arith

pub node_small : (n : ℕ) → n < 2 ^ 32 - 1 → IsSmall (node_of n)
node_small n fits = by_order (cases_lt n (2 ^ 31))
  where
    by_order : (n < 2 ^ 31) ⊎ (2 ^ 31 ≤ n) → IsSmall (node_of n)
    by_order (inl lt) = subst IsSmall (sym (low_node n lt)) lt
    by_order (inr ge) = subst IsSmall (sym (high_node n ge)) (let less : n - 2 ^ 31 + 1 < 2 ^ 31 = omega arith in less)
