use Rattle.std.proofs.Common.{◌≡◌, Some, refl, ap, ◌∙◌}
use Rattle.std.specs.List.{slice_get}
use Rattle.gpu_block_gaps.specs.declared.tree.Node.TheVariants.{Leaf}
use Rattle.gpu_block_gaps.specs.Tree.{Tree}
use Rattle.gpu_block_gaps.specs.Forest.{root_at}
use Rattle.gpu_block_gaps.proofs.Trees.{tip_at}
use Rattle.gpu_block_gaps.proofs.Forests.{tree_there}
use Rattle.gpu_block_gaps.proofs.forest.Forest.lone.Goals as goal

pub returns-in-Leaf : goal.returns-in-Leaf
returns-in-Leaf c = λ at trees are.
    let read = c.root_of.ensures.is in
    let is = c.in-Leaf.is in
    let rooted : root_at c.args.self.now.roots.items c.args.class ≡ Some (Leaf c.in-Leaf.leaf) = cc in
    let there = tree_there at _ _ _ _ _ _ trees are c.args.class (Leaf c.in-Leaf.leaf) rooted in
    there.is ∙ ap (λ (u : Tree). Some u) (tip_at (slice_get c.args.self.now.forks.items) 128 (Leaf c.in-Leaf.leaf) there.tree c.in-Leaf.leaf there.laid refl)
