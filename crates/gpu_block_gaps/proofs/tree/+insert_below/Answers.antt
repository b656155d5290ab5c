use Rattle.std.proofs.Common.{rules, arith, ◌≡◌, ℕ, ◌<◌, ◌≤◌, Some, cond, refl, sym, ap, subst, ◌∙◌}
use Rattle.std.specs.List.{slice_get}
use Rattle.std.proofs.lemmas.Option.{same_Some, slice_get_within}
use Rattle.gpu_block_gaps.specs.declared.tree.Node.{Node}
use Rattle.gpu_block_gaps.specs.declared.tree.Node.TheVariants.{Leaf, Branch}
use Rattle.gpu_block_gaps.specs.declared.tree.Fork.{Fork}
use Rattle.gpu_block_gaps.specs.declared.tree.Place.TheVariants.{Before, After}
use Rattle.gpu_block_gaps.specs.Key.{code_of, bit_of}
use Rattle.gpu_block_gaps.specs.Tree.{Tree, tip, fork, Slots, Lays, leaves_of, first_leaf, last_leaf, grown, CanGrow, HasGrown, IsSplit, IsPlace}
use Rattle.gpu_block_gaps.proofs.Trees.{fork_at, fork_read, lays_under, rank, falls, lays_branch}
use Rattle.gpu_block_gaps.proofs.Shapes.{fork_of}
use Rattle.gpu_block_gaps.proofs.Laying.{can_branch, grew_branch, grew_tip, grew_stop}
use Rattle.gpu_block_gaps.proofs.Below.{grew_deep}
use Rattle.gpu_block_gaps.proofs.Places.{split_branch, place_branch, place_tip, place_stop}
use Rattle.gpu_block_gaps.proofs.tree.+insert_below.Goals as goal
use Rattle.gpu_block_gaps.proofs.tree.+insert_below.Goals.{in_Branch-branch+else-bit-fork_in, in_default-branch}

pub is_set-set-requires : goal.is_set-set-requires
is_set-set-requires t c =
    let there = fork_read (slice_get c.args.forks.now.items) 128 (Branch c.args.above) (c.requires.laid).0 c.args.above c.fork_in-fork.result (c.requires.laid).1 refl c.fork_in-fork.ensures in
    there.below

pub fork_in-requires : goal.fork_in-requires
fork_in-requires t c =
    let slots = slice_get c.args.forks.now.items in
    let f = c.fork_in-fork.result in
    let there = fork_read slots 128 (Branch c.args.above) (c.requires.laid).0 c.args.above f (c.requires.laid).1 refl c.fork_in-fork.ensures in
    let b = bit_of (code_of c.args.key) f.bit in
    let way : cond b f.one f.zero ≡ Branch c.in_Branch-branch.below = sym (c.branch-branch.ensures.is ∙ ap (λ set. cond set f.one f.zero) c.is_set-set.ensures) ∙ c.in_Branch-branch.is in
    let laid : Lays slots f.bit (Branch c.in_Branch-branch.below) (cond b there.y there.x) =
    subst (λ (n : Node). Lays slots f.bit n (cond b there.y there.x)) way (lays_branch b slots f.bit f.zero f.one there.x there.y there.left there.right) in
    let next = fork_at slots f.bit (Branch c.in_Branch-branch.below) (cond b there.y there.x) c.in_Branch-branch.below laid refl in
    slice_get_within c.args.forks.now.items c.in_Branch-branch.below _ next.read

pub insert_below-requires : goal.insert_below-requires
insert_below-requires t c =
    let slots = slice_get c.args.forks.now.items in
    let f = c.fork_in-fork.result in
    let there = fork_read slots 128 (Branch c.args.above) (c.requires.laid).0 c.args.above f (c.requires.laid).1 refl c.fork_in-fork.ensures in
    let b = bit_of (code_of c.args.key) f.bit in
    let way : cond b f.one f.zero ≡ Branch c.in_Branch-branch.below = sym (c.branch-branch.ensures.is ∙ ap (λ set. cond set f.one f.zero) c.is_set-set.ensures) ∙ c.in_Branch-branch.is in
    let laid : Lays slots f.bit (Branch c.in_Branch-branch.below) (cond b there.y there.x) =
    subst (λ (n : Node). Lays slots f.bit n (cond b there.y there.x)) way (lays_branch b slots f.bit f.zero f.one there.x there.y there.left there.right) in
    let smaller : rank slots (Branch c.in_Branch-branch.below) < rank slots (Branch c.args.above) = falls slots c.args.above (Branch c.args.above) f (Branch c.in_Branch-branch.below) _ refl c.fork_in-fork.ensures laid in
    (search rules, ((cond b there.y there.x, lays_under slots f.bit 128 (Branch c.in_Branch-branch.below) _ laid (let below = there.below in omega arith)), (c.requires.slot, (c.requires.leaf, (c.requires.bit, (c.fork_in.result, c.fork_in.ensures, c.if-bit-fork_in.true))))))

pub returns-then-bit-fork_in-clause-grown : goal.returns-then-bit-fork_in-clause-grown
returns-then-bit-fork_in-clause-grown t c = λ key top u can.
    let old = slice_get c.args.forks.now.items in
    let new = slice_get c.insert_below.new.forks.items in
    let n = code_of c.args.key in
    let f = c.fork_in-fork.result in
    let bit = c.args.bit in
    let there = fork_read old top (Branch c.args.above) u c.args.above f can.laid refl c.fork_in-fork.ensures in
    let b = bit_of n f.bit in
    let way : cond b f.one f.zero ≡ Branch c.in_Branch-branch.below = sym (c.branch-branch.ensures.is ∙ ap (λ set. cond set f.one f.zero) c.is_set-set.ensures) ∙ c.in_Branch-branch.is in
    let lt : bit < f.bit = subst (λ (g : Fork). bit < g.bit) (same_Some _ _ (sym (c.requires.higher).1 ∙ c.fork_in-fork.ensures)) (c.requires.higher).2 in
    let can' : CanGrow key old top (Branch c.args.above) (fork c.args.above f.bit there.x there.y) n bit c.args.slot = subst (λ z. CanGrow key old top (Branch c.args.above) z n bit c.args.slot) there.is can in
    let below = can_branch key old top (Branch c.args.above) c.args.above f.bit f.zero f.one there.x there.y n bit c.args.slot can' there.left there.right lt in
    let grew = c.insert_below.ensures.grown key f.bit (cond b there.y there.x) (subst (λ (z : Node). CanGrow key old f.bit z (cond b there.y there.x) n bit c.args.slot) way below) in
    subst (λ z. HasGrown old new top (Branch c.args.above) z (grown n bit c.args.leaf c.args.slot z) c.args.slot) (sym there.is)
    (grew_deep key old new top c.args.above c.in_Branch-branch.below f there.x there.y n bit c.args.leaf c.args.slot can' there.left there.right lt c.fork_in-fork.ensures way grew)

pub returns-then-bit-fork_in-clause-place : goal.returns-then-bit-fork_in-clause-place
returns-then-bit-fork_in-clause-place t c = λ key u standing split.
    let slots = slice_get c.args.forks.now.items in
    let n = code_of c.args.key in
    let f = c.fork_in-fork.result in
    let there = fork_read slots 128 (Branch c.args.above) u c.args.above f standing refl c.fork_in-fork.ensures in
    let b = bit_of n f.bit in
    let way : cond b f.one f.zero ≡ Branch c.in_Branch-branch.below = sym (c.branch-branch.ensures.is ∙ ap (λ set. cond set f.one f.zero) c.is_set-set.ensures) ∙ c.in_Branch-branch.is in
    let laid : Lays slots f.bit (Branch c.in_Branch-branch.below) (cond b there.y there.x) =
    subst (λ (n : Node). Lays slots f.bit n (cond b there.y there.x)) way (lays_branch b slots f.bit f.zero f.one there.x there.y there.left there.right) in
    let lt : c.args.bit < f.bit = subst (λ (g : Fork). c.args.bit < g.bit) (same_Some _ _ (sym (c.requires.higher).1 ∙ c.fork_in-fork.ensures)) (c.requires.higher).2 in
    let split' : IsSplit key (fork c.args.above f.bit there.x there.y) n c.args.bit = subst (λ z. IsSplit key z n c.args.bit) there.is split in
    let part = c.insert_below.ensures.place key (cond b there.y there.x) (lays_under slots f.bit 128 (Branch c.in_Branch-branch.below) _ laid (let below = there.below in omega arith))
    (split_branch key c.args.above f.bit there.x there.y n c.args.bit split' b refl) in
    subst (λ z. IsPlace key n (leaves_of z) c.insert_below.result) (sym there.is)
    (place_branch key c.args.above f.bit there.x there.y n c.args.bit c.insert_below.result split' lt b refl part)

pub place_beside-place-requires : goal.place_beside-place-requires
place_beside-place-requires t c =
    let slots = slice_get c.args.forks.now.items in
    let f = c.fork_in-fork.result in
    let there = fork_read slots 128 (Branch c.args.above) (c.requires.laid).0 c.args.above f (c.requires.laid).1 refl c.fork_in-fork.ensures in
    let b = bit_of (code_of c.args.key) f.bit in
    let same_node : c.match-branch.branch' ≡ c.branch-branch.result =
    elim c.match-branch.branch [
      | in_Branch-branch+else-bit-fork_in w ↦ (let a = w.branch'-is in let b = w.in_Branch-branch.is in cc)
      | in_default-branch w ↦ (let a = w.branch'-is in let b = w.in_default-branch.is in cc)
    ] in
    let way : c.match-branch.branch' ≡ cond b f.one f.zero = same_node ∙ c.branch-branch.ensures.is ∙ ap (λ set. cond set f.one f.zero) c.is_set-set.ensures in
    let laid : Lays slots f.bit c.match-branch.branch' (cond b there.y there.x) =
    subst (λ (n : Node). Lays slots f.bit n (cond b there.y there.x)) (sym way) (lays_branch b slots f.bit f.zero f.one there.x there.y there.left there.right) in
    (cond b there.y there.x, lays_under slots f.bit 128 c.match-branch.branch' _ laid (let below = there.below in omega arith))

bit_same : (k j b d : ℕ) (x y v w : Tree) → fork k b x y ≡ fork j d v w → b ≡ d
bit_same k j b d x y v w same = cc

pub returns-clause-place : goal.returns-clause-place
returns-clause-place t c = λ key u standing split. whole key u standing split
  where
    n : ℕ
    n = code_of c.args.key

    slots : Slots
    slots = slice_get c.args.forks.now.items

    f : Fork
    f = c.fork_in-fork.result

    same_node : c.branch-branch.result ≡ c.match-branch.branch'
    same_node =
        elim c.match-branch.branch [
          | in_Branch-branch+else-bit-fork_in w ↦ (let a = w.branch'-is in let b = w.in_Branch-branch.is in cc)
          | in_default-branch w ↦ (let a = w.branch'-is in let b = w.in_default-branch.is in cc)
        ]

    place_is : (v : Tree) → Lays slots 128 c.branch-branch.result v → c.place_beside-place.result ≡ cond (bit_of n c.args.bit) (After (last_leaf v)) (Before (first_leaf v))
    place_is v laid =
        c.place_beside-place.ensures v (subst (λ (m : Node). Lays slots 128 m v) same_node laid) ∙ ap (λ set. cond set (After (last_leaf v)) (Before (first_leaf v))) c.is_set-on.ensures

    by_tree : (key : ℕ → ℕ) (v : Tree) → Lays slots f.bit c.branch-branch.result v → IsSplit key v n c.args.bit
        → IsPlace key n (leaves_of v) (cond (bit_of n c.args.bit) (After (last_leaf v)) (Before (first_leaf v)))
    by_tree key (tip leaf) laid split = place_tip key leaf n c.args.bit split (bit_of n c.args.bit) refl
    by_tree key (fork at b x y) laid split =
        let le : b ≤ c.args.bit =
        elim c.match-branch.branch [
          | in_Branch-branch+else-bit-fork_in w ↦ (
              let there = fork_read slots f.bit c.branch-branch.result (fork at b x y) w.in_Branch-branch.below w.fork_in.result laid w.in_Branch-branch.is w.fork_in.ensures in
              let same : b ≡ w.fork_in.result.bit = bit_same at w.in_Branch-branch.below b _ x y there.x there.y there.is in
              let far = w.if-bit-fork_in.false in
              omega arith)
          | in_default-branch w ↦ absurd (w.in_default-branch.not-Branch at laid.0)
        ] in
        place_stop key at b x y n c.args.bit split le (bit_of n c.args.bit) refl

    whole : (key : ℕ → ℕ) (u : Tree) → Lays slots 128 (Branch c.args.above) u → IsSplit key u n c.args.bit → IsPlace key n (leaves_of u) c.place_beside-place.result
    whole key u standing split =
        let there = fork_read slots 128 (Branch c.args.above) u c.args.above f standing refl c.fork_in-fork.ensures in
        let b = bit_of n f.bit in
        let v = cond b there.y there.x in
        let way : c.branch-branch.result ≡ cond b f.one f.zero = c.branch-branch.ensures.is ∙ ap (λ set. cond set f.one f.zero) c.is_set-set.ensures in
        let laid : Lays slots f.bit c.branch-branch.result v = subst (λ (m : Node). Lays slots f.bit m v) (sym way) (lays_branch b slots f.bit f.zero f.one there.x there.y there.left there.right) in
        let lt : c.args.bit < f.bit = subst (λ (g : Fork). c.args.bit < g.bit) (same_Some _ _ (sym (c.requires.higher).1 ∙ c.fork_in-fork.ensures)) (c.requires.higher).2 in
        let split' : IsSplit key (fork c.args.above f.bit there.x there.y) n c.args.bit = subst (λ z. IsSplit key z n c.args.bit) there.is split in
        let wide = lays_under slots f.bit 128 c.branch-branch.result v laid (let below = there.below in omega arith) in
        let part = subst (IsPlace key n (leaves_of v)) (sym (place_is v wide)) (by_tree key v laid (split_branch key c.args.above f.bit there.x there.y n c.args.bit split' b refl)) in
        subst (λ z. IsPlace key n (leaves_of z) c.place_beside-place.result) (sym there.is)
        (place_branch key c.args.above f.bit there.x there.y n c.args.bit c.place_beside-place.result split' lt b refl part)

pub put-requires-2 : goal.put-requires-2
put-requires-2 t c = let within = slice_get_within c.args.forks.now.items c.args.above _ c.fork_in-fork.ensures in search rules

pub returns-clause-grown : goal.returns-clause-grown
returns-clause-grown t c = λ key top u can. whole key top u can
  where
    n : ℕ
    n = code_of c.args.key

    old : Slots
    old = slice_get c.args.forks.now.items

    mid : Slots
    mid = slice_get c.put.new.forks.items

    new : Slots
    new = slice_get c.put-2.new.forks.items

    f : Fork
    f = c.fork_in-fork.result

    same_node : c.match-branch.branch' ≡ c.branch-branch.result
    same_node =
        elim c.match-branch.branch [
          | in_Branch-branch+else-bit-fork_in w ↦ (let a = w.branch'-is in let b = w.in_Branch-branch.is in cc)
          | in_default-branch w ↦ (let a = w.branch'-is in let b = w.in_default-branch.is in cc)
        ]

    value : mid c.args.slot ≡ Some (cond (bit_of n c.args.bit) (fork_of c.branch-branch.result (Leaf c.args.leaf) c.args.bit) (fork_of (Leaf c.args.leaf) c.branch-branch.result c.args.bit))
    value =
        c.put.ensures.changed
        ∙ ap (λ (g : Fork). Some g)
        (c.beside.ensures
        ∙ ap (λ set. cond set (fork_of c.match-branch.branch' (Leaf c.args.leaf) c.args.bit) (fork_of (Leaf c.args.leaf) c.match-branch.branch' c.args.bit)) c.is_set-on.ensures
        ∙ ap (λ (m : Node). cond (bit_of n c.args.bit) (fork_of m (Leaf c.args.leaf) c.args.bit) (fork_of (Leaf c.args.leaf) m c.args.bit)) same_node)

    by_tree : (key : ℕ → ℕ) (v : Tree) → CanGrow key old f.bit c.branch-branch.result v n c.args.bit c.args.slot
        → HasGrown old mid f.bit (Branch c.args.slot) v (grown n c.args.bit c.args.leaf c.args.slot v) c.args.slot
    by_tree key (tip other) can = grew_tip key old mid f.bit c.branch-branch.result other n c.args.bit c.args.leaf c.args.slot can value c.put.ensures.others
    by_tree key (fork at b x y) can =
        let laid = can.laid in
        let le : b ≤ c.args.bit =
        elim c.match-branch.branch [
          | in_Branch-branch+else-bit-fork_in w ↦ (
              let there = fork_read old f.bit c.branch-branch.result (fork at b x y) w.in_Branch-branch.below w.fork_in.result can.laid w.in_Branch-branch.is w.fork_in.ensures in
              let same : b ≡ w.fork_in.result.bit = bit_same at w.in_Branch-branch.below b _ x y there.x there.y there.is in
              let far = w.if-bit-fork_in.false in
              omega arith)
          | in_default-branch w ↦ absurd (w.in_default-branch.not-Branch at (can.laid).0)
        ] in
        grew_stop key old mid f.bit c.branch-branch.result at b x y n c.args.bit c.args.leaf c.args.slot can le value c.put.ensures.others

    whole : (key : ℕ → ℕ) (top : ℕ) (u : Tree) → CanGrow key old top (Branch c.args.above) u n c.args.bit c.args.slot
        → HasGrown old new top (Branch c.args.above) u (grown n c.args.bit c.args.leaf c.args.slot u) c.args.slot
    whole key top u can =
        let there = fork_read old top (Branch c.args.above) u c.args.above f can.laid refl c.fork_in-fork.ensures in
        let b = bit_of n f.bit in
        let way : c.branch-branch.result ≡ cond b f.one f.zero = c.branch-branch.ensures.is ∙ ap (λ set. cond set f.one f.zero) c.is_set-set.ensures in
        let lt : c.args.bit < f.bit = subst (λ (g : Fork). c.args.bit < g.bit) (same_Some _ _ (sym (c.requires.higher).1 ∙ c.fork_in-fork.ensures)) (c.requires.higher).2 in
        let can' : CanGrow key old top (Branch c.args.above) (fork c.args.above f.bit there.x there.y) n c.args.bit c.args.slot =
        subst (λ z. CanGrow key old top (Branch c.args.above) z n c.args.bit c.args.slot) there.is can in
        let below = can_branch key old top (Branch c.args.above) c.args.above f.bit f.zero f.one there.x there.y n c.args.bit c.args.slot can' there.left there.right lt in
        let grew = by_tree key (cond b there.y there.x) (subst (λ (z : Node). CanGrow key old f.bit z (cond b there.y there.x) n c.args.bit c.args.slot) (sym way) below) in
        let led : c.with_branch.result ≡ cond b (fork_of f.zero (Branch c.args.slot) f.bit) (fork_of (Branch c.args.slot) f.one f.bit) =
        c.with_branch.ensures ∙ ap (λ set. cond set (fork_of f.zero (Branch c.args.slot) f.bit) (fork_of (Branch c.args.slot) f.one f.bit)) c.is_set-set.ensures in
        subst (λ z. HasGrown old new top (Branch c.args.above) z (grown n c.args.bit c.args.leaf c.args.slot z) c.args.slot) (sym there.is)
        (grew_branch key old mid new top (Branch c.args.above) c.args.above f.bit f.zero f.one (Branch c.args.slot) there.x there.y n c.args.bit c.args.leaf c.args.slot can' there.left there.right lt grew
        (c.put-2.ensures.changed ∙ ap (λ (g : Fork). Some g) led) c.put-2.ensures.others)
