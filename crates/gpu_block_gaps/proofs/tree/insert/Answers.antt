use Rattle.std.proofs.Common.{arith, ◌≡◌, ℕ, ◌≤◌, Some, cond, refl, sym, ap, subst, ◌∙◌}
use Rattle.std.specs.List.{slice_get}
use Rattle.std.proofs.lemmas.Option.{slice_get_within}
use Rattle.gpu_block_gaps.specs.declared.tree.Node.{Node}
use Rattle.gpu_block_gaps.specs.declared.tree.Node.TheVariants.{Leaf, Branch}
use Rattle.gpu_block_gaps.specs.declared.tree.Fork.{Fork}
use Rattle.gpu_block_gaps.specs.declared.tree.Place.TheVariants.{Before, After}
use Rattle.gpu_block_gaps.specs.Key.{code_of, bit_of}
use Rattle.gpu_block_gaps.specs.Tree.{Tree, tip, fork, Slots, Lays, leaves_of, first_leaf, last_leaf, grown, CanGrow, HasGrown, IsSplit, IsPlace}
use Rattle.gpu_block_gaps.proofs.Trees.{fork_at, fork_read}
use Rattle.gpu_block_gaps.proofs.Shapes.{fork_of}
use Rattle.gpu_block_gaps.proofs.Laying.{grew_tip, grew_stop}
use Rattle.gpu_block_gaps.proofs.Places.{place_tip, place_stop}
use Rattle.gpu_block_gaps.proofs.tree.insert.Goals as goal
use Rattle.gpu_block_gaps.proofs.tree.insert.Goals.{in-Branch+else-bit-fork_in, in_default}

pub fork_in-requires : goal.fork_in-requires
fork_in-requires c =
    let there = fork_at (slice_get c.args.forks.now.items) 128 c.args.node (c.requires.laid).0 c.in-Branch.at (c.requires.laid).1 c.in-Branch.is in
    slice_get_within c.args.forks.now.items c.in-Branch.at _ there.read

pub returns-then-bit-fork_in-clause-grown : goal.returns-then-bit-fork_in-clause-grown
returns-then-bit-fork_in-clause-grown c = λ key top u can.
    c.insert_below-place.ensures.grown key top u (subst (λ (m : Node). CanGrow key (slice_get c.args.forks.now.items) top m u (code_of c.args.key) c.args.bit c.args.slot) c.in-Branch.is can)

pub returns-then-bit-fork_in-clause-place : goal.returns-then-bit-fork_in-clause-place
returns-then-bit-fork_in-clause-place c = λ key u standing split.
    c.insert_below-place.ensures.place key u (subst (λ (m : Node). Lays (slice_get c.args.forks.now.items) 128 m u) c.in-Branch.is standing) split

pub place_beside-place-requires : goal.place_beside-place-requires
place_beside-place-requires c =
    let same_node : c.match-node.node ≡ c.args.node =
    elim c.match-node.branch [
      | in-Branch+else-bit-fork_in w ↦ (let a = w.node-is in let b = w.in-Branch.is in cc)
      | in_default w ↦ (let a = w.node-is in let b = w.in_default.is in cc)
    ] in
    ((c.requires.laid).0, subst (λ (m : Node). Lays (slice_get c.args.forks.now.items) 128 m (c.requires.laid).0) (sym same_node) (c.requires.laid).1)

bit_same : (k j b d : ℕ) (x y v w : Tree) → fork k b x y ≡ fork j d v w → b ≡ d
bit_same k j b d x y v w same = cc

pub returns-clause-place : goal.returns-clause-place
returns-clause-place c = λ key u laid split. subst (IsPlace key n (leaves_of u)) (sym (place_is u laid)) (by_tree key u laid split)
  where
    n : ℕ
    n = code_of c.args.key

    slots : Slots
    slots = slice_get c.args.forks.now.items

    same_node : c.args.node ≡ c.match-node.node
    same_node =
        elim c.match-node.branch [
          | in-Branch+else-bit-fork_in w ↦ (let a = w.node-is in let b = w.in-Branch.is in cc)
          | in_default w ↦ (let a = w.node-is in let b = w.in_default.is in cc)
        ]

    place_is : (u : Tree) → Lays slots 128 c.args.node u → c.place_beside-place.result ≡ cond (bit_of n c.args.bit) (After (last_leaf u)) (Before (first_leaf u))
    place_is u laid =
        c.place_beside-place.ensures u (subst (λ (m : Node). Lays slots 128 m u) same_node laid) ∙ ap (λ set. cond set (After (last_leaf u)) (Before (first_leaf u))) c.is_set-on.ensures

    by_tree : (key : ℕ → ℕ) (u : Tree) → Lays slots 128 c.args.node u → IsSplit key u n c.args.bit
        → IsPlace key n (leaves_of u) (cond (bit_of n c.args.bit) (After (last_leaf u)) (Before (first_leaf u)))
    by_tree key (tip leaf) laid split = place_tip key leaf n c.args.bit split (bit_of n c.args.bit) refl
    by_tree key (fork at b x y) laid split =
        let le : b ≤ c.args.bit =
        elim c.match-node.branch [
          | in-Branch+else-bit-fork_in w ↦ (
              let there = fork_read slots 128 c.args.node (fork at b x y) w.in-Branch.at w.fork_in.result laid w.in-Branch.is w.fork_in.ensures in
              let same : b ≡ w.fork_in.result.bit = bit_same at w.in-Branch.at b _ x y there.x there.y there.is in
              let far = w.if-bit-fork_in.false in
              omega arith)
          | in_default w ↦ absurd (w.in_default.not-Branch at laid.0)
        ] in
        place_stop key at b x y n c.args.bit split le (bit_of n c.args.bit) refl

pub returns-clause-grown : goal.returns-clause-grown
returns-clause-grown c = λ key top u can. by_tree key top u can
  where
    n : ℕ
    n = code_of c.args.key

    old : Slots
    old = slice_get c.args.forks.now.items

    new : Slots
    new = slice_get c.put.new.forks.items

    same_node : c.match-node.node ≡ c.args.node
    same_node =
        elim c.match-node.branch [
          | in-Branch+else-bit-fork_in w ↦ (let a = w.node-is in let b = w.in-Branch.is in cc)
          | in_default w ↦ (let a = w.node-is in let b = w.in_default.is in cc)
        ]

    value : new c.args.slot ≡ Some (cond (bit_of n c.args.bit) (fork_of c.args.node (Leaf c.args.leaf) c.args.bit) (fork_of (Leaf c.args.leaf) c.args.node c.args.bit))
    value =
        c.put.ensures.changed
        ∙ ap (λ (g : Fork). Some g)
        (c.beside.ensures
        ∙ ap (λ set. cond set (fork_of c.match-node.node (Leaf c.args.leaf) c.args.bit) (fork_of (Leaf c.args.leaf) c.match-node.node c.args.bit)) c.is_set-on.ensures
        ∙ ap (λ (m : Node). cond (bit_of n c.args.bit) (fork_of m (Leaf c.args.leaf) c.args.bit) (fork_of (Leaf c.args.leaf) m c.args.bit)) same_node)

    by_tree : (key : ℕ → ℕ) (top : ℕ) (u : Tree) → CanGrow key old top c.args.node u n c.args.bit c.args.slot
        → HasGrown old new top (Branch c.args.slot) u (grown n c.args.bit c.args.leaf c.args.slot u) c.args.slot
    by_tree key top (tip other) can = grew_tip key old new top c.args.node other n c.args.bit c.args.leaf c.args.slot can value c.put.ensures.others
    by_tree key top (fork at b x y) can =
        let laid = can.laid in
        let le : b ≤ c.args.bit =
        elim c.match-node.branch [
          | in-Branch+else-bit-fork_in w ↦ (
              let there = fork_read old top c.args.node (fork at b x y) w.in-Branch.at w.fork_in.result can.laid w.in-Branch.is w.fork_in.ensures in
              let same : b ≡ w.fork_in.result.bit = bit_same at w.in-Branch.at b _ x y there.x there.y there.is in
              let far = w.if-bit-fork_in.false in
              omega arith)
          | in_default w ↦ absurd (w.in_default.not-Branch at (can.laid).0)
        ] in
        grew_stop key old new top c.args.node at b x y n c.args.bit c.args.leaf c.args.slot can le value c.put.ensures.others
