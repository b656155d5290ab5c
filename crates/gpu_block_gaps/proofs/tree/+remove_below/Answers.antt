use Rattle.std.proofs.Common.{rules, arith, ◌≡◌, ℕ, ◌<◌, Some, Bool, true, false, cond, not, refl, sym, ap, subst, ◌∙◌}
use Rattle.std.specs.List.{slice_get}
use Rattle.std.proofs.lemmas.Option.{slice_get_within, same_Some}
use Rattle.gpu_block_gaps.specs.declared.tree.Node.{Node}
use Rattle.gpu_block_gaps.specs.declared.tree.Node.TheVariants.{Leaf, Branch}
use Rattle.gpu_block_gaps.specs.declared.tree.Fork.{Fork}
use Rattle.gpu_block_gaps.specs.Key.{code_of, bit_of}
use Rattle.gpu_block_gaps.specs.Tree.{Tree, fork, near, Slots, Lays, Sorted, is_tip, HasPruned}
use Rattle.gpu_block_gaps.proofs.Trees.{fork_at, tip_at, fork_read, lays_under, rank, falls, lays_branch, near_branch}
use Rattle.gpu_block_gaps.proofs.Shapes.{fork_of}
use Rattle.gpu_block_gaps.proofs.Pruning.{pruned_tip, pruned_branch}
use Rattle.gpu_block_gaps.proofs.Below.{pruned_deep}
use Rattle.gpu_block_gaps.proofs.tree.+remove_below.Goals as goal

-- the branch of the number is laid where the fork below stands
laid_below : (slots : Slots) (b : Bool) (bit below : ℕ) (zero one : Node) (x y : Tree) → cond b one zero ≡ Branch below → Lays slots bit zero x → Lays slots bit one y → Lays slots bit (Branch below) (cond b y x)
laid_below slots b bit below zero one x y way left right = subst (λ (n : Node). Lays slots bit n (cond b y x)) way (lays_branch b slots bit zero one x y left right)

pub fork_in-next-requires : goal.fork_in-next-requires
fork_in-next-requires t c =
    let slots = slice_get c.args.forks.now.items in
    let f = (c.requires.deeper).0 in
    let there = fork_read slots 128 (Branch c.args.slot) (c.requires.laid).0 c.args.slot f (c.requires.laid).1 refl (c.requires.deeper).1 in
    let b = bit_of (code_of c.args.key) f.bit in
    let way : cond b f.one f.zero ≡ Branch c.args.below = (c.requires.deeper).2 in
    let next = fork_at slots f.bit (Branch c.args.below) (cond b there.y there.x) c.args.below (laid_below slots b f.bit c.args.below f.zero f.one there.x there.y way there.left there.right) refl in
    slice_get_within c.args.forks.now.items c.args.below _ next.read

pub is_set-on-requires : goal.is_set-on-requires
is_set-on-requires t c =
    let slots = slice_get c.args.forks.now.items in
    let f = (c.requires.deeper).0 in
    let there = fork_read slots 128 (Branch c.args.slot) (c.requires.laid).0 c.args.slot f (c.requires.laid).1 refl (c.requires.deeper).1 in
    let b = bit_of (code_of c.args.key) f.bit in
    let way : cond b f.one f.zero ≡ Branch c.args.below = (c.requires.deeper).2 in
    let next = fork_read slots f.bit (Branch c.args.below) (cond b there.y there.x) c.args.below c.fork_in-next.result (laid_below slots b f.bit c.args.below f.zero f.one there.x there.y way there.left there.right) refl c.fork_in-next.ensures in
    let high = there.below in
    let low = next.below in
    omega arith

pub fork_in-fork-requires : goal.fork_in-fork-requires
fork_in-fork-requires t c = slice_get_within c.args.forks.now.items c.args.slot _ (c.requires.deeper).1

pub is_set-set-requires : goal.is_set-set-requires
is_set-set-requires t c =
    let there = fork_read (slice_get c.args.forks.now.items) 128 (Branch c.args.slot) (c.requires.laid).0 c.args.slot c.fork_in-fork.result (c.requires.laid).1 refl c.fork_in-fork.ensures in
    there.below

pub put-requires : goal.put-requires
put-requires t c = slice_get_within c.args.forks.now.items c.args.slot _ (c.requires.deeper).1

pub remove_below-requires : goal.remove_below-requires
remove_below-requires t c =
    let slots = slice_get c.args.forks.now.items in
    let f = (c.requires.deeper).0 in
    let there = fork_read slots 128 (Branch c.args.slot) (c.requires.laid).0 c.args.slot f (c.requires.laid).1 refl (c.requires.deeper).1 in
    let b = bit_of (code_of c.args.key) f.bit in
    let way : cond b f.one f.zero ≡ Branch c.args.below = (c.requires.deeper).2 in
    let laid = laid_below slots b f.bit c.args.below f.zero f.one there.x there.y way there.left there.right in
    let smaller : rank slots (Branch c.args.below) < rank slots (Branch c.args.slot) = falls slots c.args.slot (Branch c.args.slot) f (Branch c.args.below) _ refl (c.requires.deeper).1 laid in
    let g = c.fork_in-next.result in
    (search rules, ((cond b there.y there.x, lays_under slots f.bit 128 (Branch c.args.below) _ laid (let high = there.below in omega arith)), (g, c.fork_in-next.ensures, sym (c.branch-leaf.ensures.is ∙ ap (λ set. cond set g.one g.zero) c.is_set-on.ensures) ∙ c.in_Branch-leaf.is)))

turned : (c : Bool) (zero one : Node) → cond (not c) one zero ≡ cond c zero one
turned true zero one = refl
turned false zero one = refl

sorted_branch : (key : ℕ → ℕ) (c : Bool) (x y : Tree) → Sorted key x → Sorted key y → Sorted key (cond c y x)
sorted_branch key true x y left right = right
sorted_branch key false x y left right = left

-- a node that leads to a leaf, and one that doesn't
tip_there : (slots : Slots) (top : ℕ) (node : Node) (u : Tree) (leaf : ℕ) → Lays slots top node u → node ≡ Leaf leaf → is_tip u ≡ true
tip_there slots top node u leaf laid is = ap is_tip (tip_at slots top node u leaf laid is)

fork_there : (slots : Slots) (top : ℕ) (node : Node) (u : Tree) (at : ℕ) → Lays slots top node u → node ≡ Branch at → is_tip u ≡ false
fork_there slots top node u at laid is = let there = fork_at slots top node u at laid is in ap is_tip there.is

pub returns-in_Leaf-leaf-clause-tree : goal.returns-in_Leaf-leaf-clause-tree
returns-in_Leaf-leaf-clause-tree t c = λ key top u laid sorted.
    let old = slice_get c.args.forks.now.items in
    let new = slice_get c.put.new.forks.items in
    let n = code_of c.args.key in
    let f = c.fork_in-fork.result in
    let g = c.fork_in-next.result in
    let at = c.args.slot in
    let low = c.args.below in
    let there = fork_read old top (Branch at) u at f laid refl c.fork_in-fork.ensures in
    let b = bit_of n f.bit in
    let way : cond b f.one f.zero ≡ Branch low =
    subst (λ (h : Fork). cond (bit_of n h.bit) h.one h.zero ≡ Branch low) (same_Some _ _ (sym (c.requires.deeper).1 ∙ c.fork_in-fork.ensures)) (c.requires.deeper).2 in
    let standing = laid_below old b f.bit low f.zero f.one there.x there.y way there.left there.right in
    let next = fork_read old f.bit (Branch low) (cond b there.y there.x) low g standing refl c.fork_in-next.ensures in
    let d = bit_of n g.bit in
    let end : cond d g.one g.zero ≡ Leaf c.in_Leaf-leaf.leaf = sym (c.branch-leaf.ensures.is ∙ ap (λ set. cond set g.one g.zero) c.is_set-on.ensures) ∙ c.in_Leaf-leaf.is in
    let last = tip_there old g.bit _ (cond d next.y next.x) c.in_Leaf-leaf.leaf (lays_branch d old g.bit g.zero g.one next.x next.y next.left next.right) end in
    let other : c.branch-next.result ≡ cond d g.zero g.one = c.branch-next.ensures.is ∙ turned c.is_set-on.result g.zero g.one ∙ ap (λ set. cond set g.zero g.one) c.is_set-on.ensures in
    let cut : HasPruned old old f.bit c.branch-next.result (cond b there.y there.x) n low =
    subst (λ z. HasPruned old old f.bit c.branch-next.result z n low) (sym next.is)
    (subst (λ (m : Node). HasPruned old old f.bit m (fork low g.bit next.x next.y) n low) (sym other)
    (pruned_tip key old f.bit low g.bit g.zero g.one next.x next.y n next.left next.right next.below d refl last)) in
    let more = fork_there old f.bit (Branch low) (cond b there.y there.x) low standing refl in
    let laid' : Lays old top (Branch at) (fork at f.bit there.x there.y) = subst (Lays old top (Branch at)) there.is laid in
    let sorted' : Sorted key (fork at f.bit there.x there.y) = subst (Sorted key) there.is sorted in
    let branch = c.branch-next.result in
    let value : c.with_branch.result ≡ cond b (fork_of f.zero branch f.bit) (fork_of branch f.one f.bit) =
    c.with_branch.ensures ∙ ap (λ set. cond set (fork_of f.zero branch f.bit) (fork_of branch f.one f.bit)) c.is_set-set.ensures in
    subst (λ z. HasPruned old new top (Branch at) z n low) (sym there.is)
    (pruned_branch key old old new top at f.bit f.zero f.one branch there.x there.y n low laid' sorted' there.left there.right b refl more cut
    (c.put.ensures.changed ∙ ap (λ (h : Fork). Some h) value) c.put.ensures.others)

pub returns-in_Leaf-leaf-clause-leaf : goal.returns-in_Leaf-leaf-clause-leaf
returns-in_Leaf-leaf-clause-leaf t c = λ u laid.
    let slots = slice_get c.args.forks.now.items in
    let n = code_of c.args.key in
    let f = (c.requires.deeper).0 in
    let g = c.fork_in-next.result in
    let there = fork_read slots 128 (Branch c.args.slot) u c.args.slot f laid refl (c.requires.deeper).1 in
    let b = bit_of n f.bit in
    let way : cond b f.one f.zero ≡ Branch c.args.below = (c.requires.deeper).2 in
    let standing = laid_below slots b f.bit c.args.below f.zero f.one there.x there.y way there.left there.right in
    let next = fork_read slots f.bit (Branch c.args.below) (cond b there.y there.x) c.args.below g standing refl c.fork_in-next.ensures in
    let d = bit_of n g.bit in
    let end : cond d g.one g.zero ≡ Leaf c.in_Leaf-leaf.leaf = sym (c.branch-leaf.ensures.is ∙ ap (λ set. cond set g.one g.zero) c.is_set-on.ensures) ∙ c.in_Leaf-leaf.is in
    let alone = tip_at slots g.bit _ (cond d next.y next.x) c.in_Leaf-leaf.leaf (lays_branch d slots g.bit g.zero g.one next.x next.y next.left next.right) end in
    sym (ap (near n) there.is ∙ sym (near_branch b n there.x there.y) ∙ ap (near n) next.is ∙ sym (near_branch d n next.x next.y) ∙ ap (near n) alone)

pub returns-in_Branch-leaf-clause-tree : goal.returns-in_Branch-leaf-clause-tree
returns-in_Branch-leaf-clause-tree t c = λ key top u laid sorted.
    let old = slice_get c.args.forks.now.items in
    let new = slice_get c.remove_below.new.forks.items in
    let n = code_of c.args.key in
    let f = (c.requires.deeper).0 in
    let at = c.args.slot in
    let low = c.args.below in
    let there = fork_read old top (Branch at) u at f laid refl (c.requires.deeper).1 in
    let b = bit_of n f.bit in
    let way : cond b f.one f.zero ≡ Branch low = (c.requires.deeper).2 in
    let standing = laid_below old b f.bit low f.zero f.one there.x there.y way there.left there.right in
    let more = fork_there old f.bit (Branch low) (cond b there.y there.x) low standing refl in
    let laid' : Lays old top (Branch at) (fork at f.bit there.x there.y) = subst (Lays old top (Branch at)) there.is laid in
    let sorted' : Sorted key (fork at f.bit there.x there.y) = subst (Sorted key) there.is sorted in
    let cut = c.remove_below.ensures.tree key f.bit (cond b there.y there.x) standing (sorted_branch key b there.x there.y sorted'.3 sorted'.4) in
    subst (λ z. HasPruned old new top (Branch at) z n c.remove_below.result.slot) (sym there.is)
    (pruned_deep key old new top at low f there.x there.y n c.remove_below.result.slot laid' sorted' there.left there.right (c.requires.deeper).1 way more cut)

pub returns-in_Branch-leaf-clause-leaf : goal.returns-in_Branch-leaf-clause-leaf
returns-in_Branch-leaf-clause-leaf t c = λ u laid.
    let slots = slice_get c.args.forks.now.items in
    let n = code_of c.args.key in
    let f = (c.requires.deeper).0 in
    let there = fork_read slots 128 (Branch c.args.slot) u c.args.slot f laid refl (c.requires.deeper).1 in
    let b = bit_of n f.bit in
    let way : cond b f.one f.zero ≡ Branch c.args.below = (c.requires.deeper).2 in
    let standing = laid_below slots b f.bit c.args.below f.zero f.one there.x there.y way there.left there.right in
    let wide = lays_under slots f.bit 128 (Branch c.args.below) _ standing (let high = there.below in omega arith) in
    c.remove_below.ensures.leaf (cond b there.y there.x) wide ∙ sym (ap (near n) there.is ∙ sym (near_branch b n there.x there.y))
