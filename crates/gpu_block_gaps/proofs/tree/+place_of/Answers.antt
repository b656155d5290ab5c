use Rattle.std.proofs.Common.{rules, arith, ◌≡◌, ℕ, ◌<◌, ◌≤◌, cond, refl, sym, ap, subst, ◌∙◌}
use Rattle.std.specs.List.{slice_get}
use Rattle.std.proofs.lemmas.Option.{slice_get_within}
use Rattle.gpu_block_gaps.specs.declared.tree.Node.{Node}
use Rattle.gpu_block_gaps.specs.declared.tree.Place.TheVariants.{Before, After}
use Rattle.gpu_block_gaps.specs.Key.{code_of, bit_of}
use Rattle.gpu_block_gaps.specs.Tree.{Tree, tip, fork, Slots, Lays, leaves_of, first_leaf, last_leaf, IsSplit, IsPlace}
use Rattle.gpu_block_gaps.proofs.Trees.{fork_at, fork_read, lays_under, rank, falls, lays_branch}
use Rattle.gpu_block_gaps.proofs.Places.{split_branch, place_branch, place_tip, place_stop}
use Rattle.gpu_block_gaps.proofs.tree.+place_of.Goals as goal
use Rattle.gpu_block_gaps.proofs.tree.+place_of.Goals.{in-Branch+else-bit-fork, in_default}

pub fork_in-fork-requires : goal.fork_in-fork-requires
fork_in-fork-requires t c =
    let there = fork_at (slice_get c.args.forks.now.items) 128 c.args.node (c.requires.laid).0 c.in-Branch.at (c.requires.laid).1 c.in-Branch.is in
    slice_get_within c.args.forks.now.items c.in-Branch.at _ there.read

pub is_set-requires : goal.is_set-requires
is_set-requires t c =
    let there = fork_read (slice_get c.args.forks.now.items) 128 c.args.node (c.requires.laid).0 c.in-Branch.at c.fork_in-fork.result (c.requires.laid).1 c.in-Branch.is c.fork_in-fork.ensures in
    there.below

pub place_of-requires : goal.place_of-requires
place_of-requires t c =
    let slots = slice_get c.args.forks.now.items in
    let f = c.fork_in-fork.result in
    let there = fork_read slots 128 c.args.node (c.requires.laid).0 c.in-Branch.at f (c.requires.laid).1 c.in-Branch.is c.fork_in-fork.ensures in
    let b = bit_of (code_of c.args.key) f.bit in
    let way : c.branch-fork.result ≡ cond b f.one f.zero = c.branch-fork.ensures.is ∙ ap (λ set. cond set f.one f.zero) c.is_set.ensures in
    let laid : Lays slots f.bit c.branch-fork.result (cond b there.y there.x) =
    subst (λ (n : Node). Lays slots f.bit n (cond b there.y there.x)) (sym way) (lays_branch b slots f.bit f.zero f.one there.x there.y there.left there.right) in
    let smaller : rank slots c.branch-fork.result < rank slots c.args.node = falls slots c.in-Branch.at c.args.node f c.branch-fork.result _ c.in-Branch.is c.fork_in-fork.ensures laid in
    (search rules, ((cond b there.y there.x, lays_under slots f.bit 128 c.branch-fork.result _ laid (let below = there.below in omega arith)), c.requires.bit))

pub returns-then-bit-fork : goal.returns-then-bit-fork
returns-then-bit-fork t c = λ key u standing split.
    let slots = slice_get c.args.forks.now.items in
    let n = code_of c.args.key in
    let f = c.fork_in-fork.result in
    let there = fork_read slots 128 c.args.node u c.in-Branch.at f standing c.in-Branch.is c.fork_in-fork.ensures in
    let b = bit_of n f.bit in
    let way : c.branch-fork.result ≡ cond b f.one f.zero = c.branch-fork.ensures.is ∙ ap (λ set. cond set f.one f.zero) c.is_set.ensures in
    let laid : Lays slots f.bit c.branch-fork.result (cond b there.y there.x) =
    subst (λ (n : Node). Lays slots f.bit n (cond b there.y there.x)) (sym way) (lays_branch b slots f.bit f.zero f.one there.x there.y there.left there.right) in
    let split' : IsSplit key (fork c.in-Branch.at f.bit there.x there.y) n c.args.bit = subst (λ z. IsSplit key z n c.args.bit) there.is split in
    let part = c.place_of.ensures key (cond b there.y there.x) (lays_under slots f.bit 128 c.branch-fork.result _ laid (let below = there.below in omega arith))
    (split_branch key c.in-Branch.at f.bit there.x there.y n c.args.bit split' b refl) in
    subst (λ z. IsPlace key n (leaves_of z) c.place_of.result) (sym there.is)
    (place_branch key c.in-Branch.at f.bit there.x there.y n c.args.bit c.place_of.result split' c.if-bit-fork.true b refl part)

bit_same : (k j b d : ℕ) (x y v w : Tree) → fork k b x y ≡ fork j d v w → b ≡ d
bit_same k j b d x y v w same = cc

pub returns : goal.returns
returns t c = λ key u laid split. subst (IsPlace key n (leaves_of u)) (sym (place_is u laid)) (by_tree key u laid split)
  where
    n : ℕ
    n = code_of c.args.key

    slots : Slots
    slots = slice_get c.args.forks.now.items

    same_node : c.args.node ≡ c.match-node.node
    same_node =
        elim c.match-node.branch [
          | in-Branch+else-bit-fork w ↦ (let a = w.node-is in let b = w.in-Branch.is in cc)
          | in_default w ↦ (let a = w.node-is in let b = w.in_default.is in cc)
        ]

    place_is : (u : Tree) → Lays slots 128 c.args.node u → c.place_beside.result ≡ cond (bit_of n c.args.bit) (After (last_leaf u)) (Before (first_leaf u))
    place_is u laid =
        c.place_beside.ensures u (subst (λ (m : Node). Lays slots 128 m u) same_node laid) ∙ ap (λ set. cond set (After (last_leaf u)) (Before (first_leaf u))) c.is_set-2.ensures

    by_tree : (key : ℕ → ℕ) (u : Tree) → Lays slots 128 c.args.node u → IsSplit key u n c.args.bit
        → IsPlace key n (leaves_of u) (cond (bit_of n c.args.bit) (After (last_leaf u)) (Before (first_leaf u)))
    by_tree key (tip leaf) laid split = place_tip key leaf n c.args.bit split (bit_of n c.args.bit) refl
    by_tree key (fork at b x y) laid split =
        let le : b ≤ c.args.bit =
        elim c.match-node.branch [
          | in-Branch+else-bit-fork w ↦ (
              let there = fork_read slots 128 c.args.node (fork at b x y) w.in-Branch.at w.fork_in-fork.result laid w.in-Branch.is w.fork_in-fork.ensures in
              let same : b ≡ w.fork_in-fork.result.bit = bit_same at w.in-Branch.at b _ x y there.x there.y there.is in
              let far = w.if-bit-fork.false in
              omega arith)
          | in_default w ↦ absurd (w.in_default.not-Branch at laid.0)
        ] in
        place_stop key at b x y n c.args.bit split le (bit_of n c.args.bit) refl
