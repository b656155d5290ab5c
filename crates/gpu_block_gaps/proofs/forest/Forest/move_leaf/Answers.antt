use Rattle.std.proofs.Common.{Option, set, Some, None, sym, refl, subst}
use Rattle.gpu_block_gaps.specs.declared.tree.Node.{Node}
use Rattle.gpu_block_gaps.specs.Tree.{tip}
use Rattle.gpu_block_gaps.specs.Forest.{AreTrees}
use Rattle.gpu_block_gaps.proofs.Moving.{leaf_moved}
use Rattle.gpu_block_gaps.proofs.forest.Forest.move_leaf.Goals as goal

pub returns-clause-trees : goal.returns-clause-trees
returns-clause-trees c = λ at new trees leaf are alone empty same class.
    let self = c.args.self.now in
    let from = c.args.from in
    let to = c.args.to in
    let root = c.index-root.result.now in
    let moved = leaf_moved at new _ _ _ _ _ _ trees are from to leaf alone empty root c.remove.new.self c.insert.new.self (new leaf) c.index-root.ensures class c.requires.to same refl c.remove.ensures c.insert.ensures in
    subst (λ (r : Option Node). AreTrees new self.scale self.forks.items self.spare.items self.spare.capacity (set (set self.roots.items from r) to root) c.insert.new.self
    (set (set trees from None) to (Some (tip leaf)))) (sym c.empty.ensures) moved
