use Rattle.std.proofs.Common.{sym, ap, ◌∙◌}
use Rattle.gpu_block_gaps.specs.Forest.{tree_at}
use Rattle.gpu_block_gaps.proofs.Forests.{tree_there}
use Rattle.gpu_block_gaps.proofs.forest.Forest.near.Goals as goal

pub nearest-requires : goal.nearest-requires
nearest-requires c =
    let there = tree_there c.requires.forest.0 _ _ _ _ _ _ c.requires.forest.1 c.requires.forest.2 c.args.class c.in_ok-root.root (sym c.in_ok-root.ensures.is) in
    (there.tree, there.laid)

pub returns : goal.returns
returns c = λ key trees are.
    let there = tree_there key _ _ _ _ _ _ trees are c.args.class c.in_ok-root.root (sym c.in_ok-root.ensures.is) in (
      there.tree,
      ap (tree_at trees) (sym c.requires.class) ∙ there.is,
      c.nearest.ensures there.tree (there.laid),
    )
