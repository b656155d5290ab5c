use Rattle.std.proofs.Common.{◌<◌, sym, ap, subst, ◌∙◌, length, set, Option, Some, arith}
use Rattle.gpu_block_gaps.specs.declared.tree.Node.{Node}
use Rattle.gpu_block_gaps.specs.Key.{code_of}
use Rattle.gpu_block_gaps.specs.Tree.{tip}
use Rattle.gpu_block_gaps.specs.Forest.{tree_at, AreTrees}
use Rattle.gpu_block_gaps.proofs.Forests.{class_last}
use Rattle.gpu_block_gaps.proofs.Planting.{first_planted}
use Rattle.gpu_block_gaps.proofs.forest.Forest.insert_first.Goals as goal

pub returns-clause-trees : goal.returns-clause-trees
returns-clause-trees c = λ key trees are has none.
    let class = c.requires.class in
    let within : c.args.class < length c.args.self.now.roots.items = (let a = class_last c.args.self.now.scale (code_of c.args.key) in let e = c.requires.class in let b = c.requires.wide in omega arith) in
    let planted = first_planted key _ _ _ _ _ _ trees are c.insert.new.self c.args.class c.args.leaf (code_of c.args.key) class within has (ap (tree_at trees) class ∙ none) c.insert.ensures in
    let self = c.args.self.now in
    let rooted = subst (λ (r : Option Node). AreTrees key self.scale self.forks.items self.spare.items self.spare.capacity (set self.roots.items c.args.class r) c.insert.new.self
    (set trees c.args.class (Some (tip c.args.leaf)))) (sym c.at.ensures) planted in
    subst (λ k. AreTrees key self.scale self.forks.items self.spare.items self.spare.capacity (set self.roots.items c.args.class c.at.result) c.insert.new.self
    (set trees k (Some (tip c.args.leaf)))) class rooted
