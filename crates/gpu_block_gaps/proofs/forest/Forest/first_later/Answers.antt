use Rattle.std.proofs.Common.{arith}
use Rattle.gpu_block_gaps.proofs.Forests.{tree_there, none_outside}
use Rattle.gpu_block_gaps.proofs.forest.Forest.first_later.Goals as goal

pub first-requires : goal.first-requires
first-requires c =
    let there = tree_there c.requires.forest.0 _ _ _ _ _ _ c.requires.forest.1 c.requires.forest.2 c.in_ok-later.later c.root_of-root.result c.root_of-root.ensures.is in
    (there.tree, there.laid)

pub returns : goal.returns
returns c = λ key trees are.
    let there = tree_there key _ _ _ _ _ _ trees are c.in_ok-later.later c.root_of-root.result c.root_of-root.ensures.is in
    let found = c.in_ok-later.ensures in
    record {
      next = c.in_ok-later.later;
      tree = there.tree;
      later = (let behind = found.behind in omega arith);
      is = there.is;
      first = c.first.ensures there.tree (there.laid);
      none = λ d after before. none_outside key _ _ _ _ _ _ trees are d (found.least d (omega arith) before);
    }
