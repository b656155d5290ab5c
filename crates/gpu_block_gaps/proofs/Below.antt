-- Changes below a fork that stays as it is.
use Rattle.std.proofs.Common.{◌≡◌, ℕ, ◌<◌, Some, inl, Bool, true, false, cond, refl, sym, ap, ◌∙◌}
use Rattle.gpu_block_gaps.specs.declared.tree.Node.{Node}
use Rattle.gpu_block_gaps.specs.declared.tree.Node.TheVariants.{Branch}
use Rattle.gpu_block_gaps.specs.declared.tree.Fork.{Fork}
use Rattle.gpu_block_gaps.specs.Key.{bit_of}
use Rattle.gpu_block_gaps.specs.Tree.{Tree, fork, Slots, Lays, Sorted, HasFork, is_tip, grown, CanGrow, HasGrown, HasPruned}
use Rattle.gpu_block_gaps.proofs.Shapes.{own_left, own_right, fork_of}
use Rattle.gpu_block_gaps.proofs.Laying.{grew_branch}
use Rattle.gpu_block_gaps.proofs.Pruning.{pruned_branch}

-- a fork with the branch that it has
same_fork : (b : Bool) (f : Fork) (m : Node) → cond b f.one f.zero ≡ m → f ≡ cond b (fork_of f.zero m f.bit) (fork_of m f.one f.bit)
same_fork true f m is = ap (λ (x : Node). fork_of f.zero x f.bit) is
same_fork false f m is = ap (λ (x : Node). fork_of x f.one f.bit) is

own : (b : Bool) (at : ℕ) (x y : Tree) → (HasFork at x → ⊥) → (HasFork at y → ⊥) → HasFork at (cond b y x) → ⊥
own true at x y own_x own_y has = own_y has
own false at x y own_x own_y has = own_x has

pub pruned_deep : (key : ℕ → ℕ) (old new : Slots) (top at below : ℕ) (f : Fork) (x y : Tree) (n slot : ℕ) → Lays old top (Branch at) (fork at f.bit x y) → Sorted key (fork at f.bit x y)
    → Lays old f.bit f.zero x → Lays old f.bit f.one y → old at ≡ Some f → cond (bit_of n f.bit) f.one f.zero ≡ Branch below → is_tip (cond (bit_of n f.bit) y x) ≡ false
    → HasPruned old new f.bit (Branch below) (cond (bit_of n f.bit) y x) n slot → HasPruned old new top (Branch at) (fork at f.bit x y) n slot
pruned_deep key old new top at below f x y n slot laid sorted left right read way more cut =
    pruned_branch key old new new top at f.bit f.zero f.one (Branch below) x y n slot laid sorted left right (bit_of n f.bit) refl more cut
    (cut.others at (own (bit_of n f.bit) at x y (own_left key old top (Branch at) at f.bit x y laid sorted) (own_right key old top (Branch at) at f.bit x y laid sorted))
    ∙ read ∙ ap (λ (g : Fork). Some g) (same_fork (bit_of n f.bit) f (Branch below) way)) (λ k other. refl)

pub grew_deep : (key : ℕ → ℕ) (old new : Slots) (top at below : ℕ) (f : Fork) (x y : Tree) (n bit leaf slot : ℕ) → CanGrow key old top (Branch at) (fork at f.bit x y) n bit slot
    → Lays old f.bit f.zero x → Lays old f.bit f.one y → bit < f.bit → old at ≡ Some f → cond (bit_of n f.bit) f.one f.zero ≡ Branch below
    → HasGrown old new f.bit (Branch below) (cond (bit_of n f.bit) y x) (grown n bit leaf slot (cond (bit_of n f.bit) y x)) slot
    → HasGrown old new top (Branch at) (fork at f.bit x y) (grown n bit leaf slot (fork at f.bit x y)) slot
grew_deep key old new top at below f x y n bit leaf slot can left right lt read way grew =
    grew_branch key old new new top (Branch at) at f.bit f.zero f.one (Branch below) x y n bit leaf slot can left right lt grew
    (grew.others at (own (bit_of n f.bit) at x y (own_left key old top (Branch at) at f.bit x y can.laid can.sorted) (own_right key old top (Branch at) at f.bit x y can.laid can.sorted))
    (λ (same : at ≡ slot). can.vacant (inl (sym same)))
    ∙ read ∙ ap (λ (g : Fork). Some g) (same_fork (bit_of n f.bit) f (Branch below) way)) (λ k other. refl)
