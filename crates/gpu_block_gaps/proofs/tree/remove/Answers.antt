use Rattle.std.proofs.Common.{◌≡◌, ℕ, Bool, true, false, cond, not, refl, sym, ap, subst, ◌∙◌}
use Rattle.std.specs.List.{slice_get}
use Rattle.std.proofs.lemmas.Option.{slice_get_within}
use Rattle.gpu_block_gaps.specs.declared.tree.Node.{Node}
use Rattle.gpu_block_gaps.specs.declared.tree.Node.TheVariants.{Leaf, Branch}
use Rattle.gpu_block_gaps.specs.Key.{code_of, bit_of}
use Rattle.gpu_block_gaps.specs.Tree.{Tree, fork, near, Slots, Lays, is_tip, HasPruned}
use Rattle.gpu_block_gaps.proofs.Trees.{fork_at, tip_at, fork_read, lays_branch, near_branch}
use Rattle.gpu_block_gaps.proofs.Pruning.{pruned_tip}
use Rattle.gpu_block_gaps.proofs.tree.remove.Goals as goal

pub fork_in-fork-requires : goal.fork_in-fork-requires
fork_in-fork-requires c =
    let there = fork_at (slice_get c.args.forks.now.items) 128 (Branch c.args.slot) c.requires.laid.0 c.args.slot c.requires.laid.1 refl in
    slice_get_within c.args.forks.now.items c.args.slot _ there.read

pub is_set-set-requires : goal.is_set-set-requires
is_set-set-requires c =
    let there = fork_read (slice_get c.args.forks.now.items) 128 (Branch c.args.slot) c.requires.laid.0 c.args.slot c.fork_in-fork.result c.requires.laid.1 refl c.fork_in-fork.ensures in
    there.below

turned : (c : Bool) (zero one : Node) → cond (not c) one zero ≡ cond c zero one
turned true zero one = refl
turned false zero one = refl

-- a node that leads to a leaf, and one that doesn't
tip_there : (slots : Slots) (top : ℕ) (node : Node) (u : Tree) (leaf : ℕ) → Lays slots top node u → node ≡ Leaf leaf → is_tip u ≡ true
tip_there slots top node u leaf laid is = ap is_tip (tip_at slots top node u leaf laid is)

fork_there : (slots : Slots) (top : ℕ) (node : Node) (u : Tree) (at : ℕ) → Lays slots top node u → node ≡ Branch at → is_tip u ≡ false
fork_there slots top node u at laid is = let there = fork_at slots top node u at laid is in ap is_tip there.is

pub returns-in_Leaf-leaf-clause-tree : goal.returns-in_Leaf-leaf-clause-tree
returns-in_Leaf-leaf-clause-tree c = λ key top u laid sorted.
    let slots = slice_get c.args.forks.now.items in
    let n = code_of c.args.key in
    let f = c.fork_in-fork.result in
    let there = fork_read slots top (Branch c.args.slot) u c.args.slot f laid refl c.fork_in-fork.ensures in
    let b = bit_of n f.bit in
    let way : cond b f.one f.zero ≡ Leaf c.in_Leaf-leaf.leaf =
    sym (c.branch-leaf.ensures.is ∙ ap (λ set. cond set f.one f.zero) c.is_set-set.ensures) ∙ c.in_Leaf-leaf.is in
    let last = tip_there slots f.bit _ (cond b there.y there.x) c.in_Leaf-leaf.leaf (lays_branch b slots f.bit f.zero f.one there.x there.y there.left there.right) way in
    let other : c.branch-fork.result ≡ cond b f.zero f.one =
    c.branch-fork.ensures.is ∙ turned c.is_set-set.result f.zero f.one ∙ ap (λ set. cond set f.zero f.one) c.is_set-set.ensures in
    subst (λ z. HasPruned slots slots top c.branch-fork.result z n c.args.slot) (sym there.is)
    (subst (λ (m : Node). HasPruned slots slots top m (fork c.args.slot f.bit there.x there.y) n c.args.slot) (sym other)
    (pruned_tip key slots top c.args.slot f.bit f.zero f.one there.x there.y n there.left there.right there.below b refl last))

pub returns-in_Leaf-leaf-clause-leaf : goal.returns-in_Leaf-leaf-clause-leaf
returns-in_Leaf-leaf-clause-leaf c = λ u laid.
    let slots = slice_get c.args.forks.now.items in
    let n = code_of c.args.key in
    let f = c.fork_in-fork.result in
    let there = fork_read slots 128 (Branch c.args.slot) u c.args.slot f laid refl c.fork_in-fork.ensures in
    let b = bit_of n f.bit in
    let way : cond b f.one f.zero ≡ Leaf c.in_Leaf-leaf.leaf =
    sym (c.branch-leaf.ensures.is ∙ ap (λ set. cond set f.one f.zero) c.is_set-set.ensures) ∙ c.in_Leaf-leaf.is in
    let alone = tip_at slots f.bit _ (cond b there.y there.x) c.in_Leaf-leaf.leaf (lays_branch b slots f.bit f.zero f.one there.x there.y there.left there.right) way in
    sym (ap (near n) there.is ∙ sym (near_branch b n there.x there.y) ∙ ap (near n) alone)
