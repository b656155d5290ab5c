use Rattle.std.proofs.Common.{rules, arith, ◌<◌, sym, ap, subst, ◌∙◌}
use Rattle.std.specs.List.{slice_get}
use Rattle.std.proofs.lemmas.Option.{slice_get_within}
use Rattle.gpu_block_gaps.specs.declared.tree.Node.{Node}
use Rattle.gpu_block_gaps.specs.Tree.{Lays, last_leaf}
use Rattle.gpu_block_gaps.proofs.Trees.{fork_at, fork_read, tip_at, lays_under, rank, falls}
use Rattle.gpu_block_gaps.proofs.tree.+last.Goals as goal

pub fork_in-requires : goal.fork_in-requires
fork_in-requires t c =
    let there = fork_at (slice_get c.args.forks.now.items) 128 c.args.node c.requires.0 c.in-Branch.slot c.requires.1 c.in-Branch.is in
    slice_get_within c.args.forks.now.items c.in-Branch.slot _ there.read

pub last-requires : goal.last-requires
last-requires t c =
    let slots = slice_get c.args.forks.now.items in
    let f = c.fork_in.result in
    let there = fork_read slots 128 c.args.node c.requires.0 c.in-Branch.slot f c.requires.1 c.in-Branch.is c.fork_in.ensures in
    let laid = subst (λ (n : Node). Lays slots f.bit n there.y) (sym c.node.ensures.is) there.right in
    let smaller : rank slots c.node.result < rank slots c.args.node = falls slots c.in-Branch.slot c.args.node f c.node.result there.y c.in-Branch.is c.fork_in.ensures laid in
    (search rules, (there.y, lays_under slots f.bit 128 c.node.result there.y laid (let below = there.below in omega arith)))

pub returns-in-Leaf : goal.returns-in-Leaf
returns-in-Leaf t c = λ u laid. sym (ap last_leaf (tip_at _ 128 c.args.node u c.in-Leaf.leaf laid c.in-Leaf.is))

pub returns-in-Branch : goal.returns-in-Branch
returns-in-Branch t c = λ u laid.
    let slots = slice_get c.args.forks.now.items in
    let f = c.fork_in.result in
    let there = fork_read slots 128 c.args.node u c.in-Branch.slot f laid c.in-Branch.is c.fork_in.ensures in
    let laid = subst (λ (n : Node). Lays slots f.bit n there.y) (sym c.node.ensures.is) there.right in
    c.last.ensures there.y (lays_under slots f.bit 128 c.node.result there.y laid (let below = there.below in omega arith)) ∙ sym (ap last_leaf there.is)
