use Rattle.std.proofs.Common.{rules, arith, ◌<◌, ◌≡◌, cond, sym, ap, subst, ◌∙◌}
use Rattle.std.specs.List.{slice_get}
use Rattle.std.proofs.lemmas.Option.{slice_get_within}
use Rattle.gpu_block_gaps.specs.declared.tree.Node.{Node}
use Rattle.gpu_block_gaps.specs.Key.{code_of, bit_of}
use Rattle.gpu_block_gaps.specs.Tree.{Lays, near}
use Rattle.gpu_block_gaps.proofs.Trees.{fork_at, fork_read, tip_at, lays_under, rank, falls, lays_branch, near_branch}
use Rattle.gpu_block_gaps.proofs.tree.+nearest.Goals as goal

pub fork_in-fork-requires : goal.fork_in-fork-requires
fork_in-fork-requires t c =
    let there = fork_at (slice_get c.args.forks.now.items) 128 c.args.node c.requires.0 c.in-Branch.slot c.requires.1 c.in-Branch.is in
    slice_get_within c.args.forks.now.items c.in-Branch.slot _ there.read

pub is_set-requires : goal.is_set-requires
is_set-requires t c =
    let there = fork_read (slice_get c.args.forks.now.items) 128 c.args.node c.requires.0 c.in-Branch.slot c.fork_in-fork.result c.requires.1 c.in-Branch.is c.fork_in-fork.ensures in
    there.below

pub nearest-requires : goal.nearest-requires
nearest-requires t c =
    let slots = slice_get c.args.forks.now.items in
    let f = c.fork_in-fork.result in
    let there = fork_read slots 128 c.args.node c.requires.0 c.in-Branch.slot f c.requires.1 c.in-Branch.is c.fork_in-fork.ensures in
    let b = bit_of (code_of c.args.key) f.bit in
    let way : c.branch-fork.result ≡ cond b f.one f.zero = c.branch-fork.ensures.is ∙ ap (λ set. cond set f.one f.zero) c.is_set.ensures in
    let laid : Lays slots f.bit c.branch-fork.result (cond b there.y there.x) =
    subst (λ (n : Node). Lays slots f.bit n (cond b there.y there.x)) (sym way) (lays_branch b slots f.bit f.zero f.one there.x there.y there.left there.right) in
    let smaller : rank slots c.branch-fork.result < rank slots c.args.node = falls slots c.in-Branch.slot c.args.node f c.branch-fork.result _ c.in-Branch.is c.fork_in-fork.ensures laid in
    (search rules, (cond b there.y there.x, lays_under slots f.bit 128 c.branch-fork.result _ laid (let below = there.below in omega arith)))

pub returns-in-Leaf : goal.returns-in-Leaf
returns-in-Leaf t c = λ u laid. sym (ap (near (code_of c.args.key)) (tip_at _ 128 c.args.node u c.in-Leaf.leaf laid c.in-Leaf.is))

pub returns-in-Branch : goal.returns-in-Branch
returns-in-Branch t c = λ u standing.
    let slots = slice_get c.args.forks.now.items in
    let n = code_of c.args.key in
    let f = c.fork_in-fork.result in
    let there = fork_read slots 128 c.args.node u c.in-Branch.slot f standing c.in-Branch.is c.fork_in-fork.ensures in
    let b = bit_of n f.bit in
    let way : c.branch-fork.result ≡ cond b f.one f.zero = c.branch-fork.ensures.is ∙ ap (λ set. cond set f.one f.zero) c.is_set.ensures in
    let laid : Lays slots f.bit c.branch-fork.result (cond b there.y there.x) =
    subst (λ (n : Node). Lays slots f.bit n (cond b there.y there.x)) (sym way) (lays_branch b slots f.bit f.zero f.one there.x there.y there.left there.right) in
    c.nearest.ensures (cond b there.y there.x) (lays_under slots f.bit 128 c.branch-fork.result _ laid (let below = there.below in omega arith))
    ∙ near_branch b n there.x there.y ∙ sym (ap (near n) there.is)
