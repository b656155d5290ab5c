use Rattle.std.proofs.Common.{ℕ, ◌-◌, ◌≤◌, ◌≡◌, List, Option, length}
use Rattle.gpu_block_gaps.specs.Tree.{Tree}
use Rattle.gpu_block_gaps.specs.Forest.{IsForest}
use Rattle.gpu_block_gaps.proofs.forest.Forest.reserve_to.Given as goal

abbrev pub invariant-loop-self : goal.invariant-loop-self
invariant-loop-self l = record { trees : ((at : ℕ → ℕ) (trees : List (Option Tree)) → IsForest at l.initial.self trees → IsForest at l.self trees); forks : (l.count ≤ l.self.forks.capacity); spare : (l.count ≤ l.self.spare.capacity); fewer : (length l.self.spare.items ≤ length l.self.forks.items); more : (length l.initial.self.forks.items ≤ length l.self.forks.items); others : ((l.self.roots ≡ l.initial.self.roots) × (l.self.scale ≡ l.initial.self.scale)) }

abbrev pub decreases-loop-self : goal.decreases-loop-self
decreases-loop-self l = l.count - length l.self.forks.items
