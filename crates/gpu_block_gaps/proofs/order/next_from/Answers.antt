use Rattle.std.proofs.Common.{◌≡◌, ◌+◌, ◌*◌, ◌^◌, ◌<◌, ◌≤◌, ℕ, None, false, sym, ap, subst, ◌∙◌, arith}
use Rattle.std.proofs.lemmas.Option.{same_Some, MatchOption-at_some, MatchOption-at_none}
use Rattle.std.specs.List.{slice_get}
use Rattle.gpu_block_gaps.specs.Key.{code_of, bit_of}
use Rattle.gpu_block_gaps.specs.Tree.{Lays, leaves_of, IsBefore}
use Rattle.gpu_block_gaps.specs.Forest.{class_in, tree_at, IsFirstLater}
use Rattle.gpu_block_gaps.specs.declared.order.Nearby.{Nearby}
use Rattle.gpu_block_gaps.specs.Ordered.{key_in, IsNearby}
use Rattle.gpu_block_gaps.proofs.Forests.{root_there}
use Rattle.gpu_block_gaps.proofs.Zeros.{start_zero, near_stands}
use Rattle.gpu_block_gaps.proofs.Indexing.{code_fits, next_later, next_none, next_same, next_before, next_after}
use Rattle.gpu_block_gaps.proofs.order.next_from.Goals as goal

pub returns-in-Some : goal.returns-in-Some
returns-in-Some c = λ place is.
    let trees = c.requires.near.0 in
    let are = c.requires.near.1 in
    let none = subst (λ (n : Nearby). IsNearby (key_in c.args.thread.now.gaps) c.args.forest.now.scale trees (code_of c.args.key) n) c.in-Nothing.is c.requires.near.2 in
    let later = subst (λ k. IsFirstLater trees k c.in-Some.slot) c.requires.class (MatchOption-at_some _ _ c.in-Some.slot c.in-Some.is (c.first_later.ensures (key_in c.args.thread.now.gaps) trees are.forest)) in
    next_later c.args.thread.now c.args.forest.now trees are (code_of c.args.key) (code_fits c.args.key.length c.args.key.start (omega arith) (omega arith)) place is c.in-Some.slot none later

pub returns-in-None : goal.returns-in-None
returns-in-None c = λ place is.
    let trees = c.requires.near.0 in
    let are = c.requires.near.1 in
    let none = subst (λ (n : Nearby). IsNearby (key_in c.args.thread.now.gaps) c.args.forest.now.scale trees (code_of c.args.key) n) c.in-Nothing.is c.requires.near.2 in
    let behind = subst (λ k. (d : ℕ) → k < d → tree_at trees d ≡ None) c.requires.class (MatchOption-at_none _ _ c.in-None.is (c.first_later.ensures (key_in c.args.thread.now.gaps) trees are.forest)) in
    next_none c.args.thread.now c.args.forest.now trees are (code_of c.args.key) (code_fits c.args.key.length c.args.key.start (omega arith) (omega arith)) place is none behind

pub returns-in-Same : goal.returns-in-Same
returns-in-Same c = λ place is.
    let trees = c.requires.near.0 in
    let are = c.requires.near.1 in
    let at = subst (λ (n : Nearby). IsNearby (key_in c.args.thread.now.gaps) c.args.forest.now.scale trees (code_of c.args.key) n) c.in-Same.is c.requires.near.2 in
    next_same c.args.thread.now c.args.forest.now trees are (code_of c.args.key) (code_fits c.args.key.length c.args.key.start (omega arith) (omega arith)) place is at.0 c.in-Same.slot at.1 at.2 at.3

pub returns-then-bit-lt-START_BITS : goal.returns-then-bit-lt-START_BITS
returns-then-bit-lt-START_BITS c = λ place is.
    let key = key_in c.args.thread.now.gaps in
    let f = c.args.forest.now in
    let n = code_of c.args.key in
    let trees = c.requires.near.0 in
    let are = c.requires.near.1 in
    let at = subst (λ (m : Nearby). IsNearby key f.scale trees n m) c.in-Apart.is c.requires.near.2 in
    let there = root_there key f.scale f.forks.items f.spare.items f.spare.capacity f.roots.items f.classes trees are.forest (class_in f.scale n) at.0 at.1 in
    let laid = subst (Lays (slice_get f.forks.items) 128 there.0) (same_Some _ _ (sym there.2.is ∙ at.1)) there.2.laid in
    let whole : n ≡ c.args.key.length * 2 ^ 64 + 0 = ap (λ s. c.args.key.length * 2 ^ 64 + s) c.requires.start in
    let zeros : (b : ℕ) → b ≤ c.in-Apart.bit → bit_of n b ≡ false = λ b le.
    (let low = c.if-bit-lt-START_BITS.true in ap (λ m. bit_of m b) whole ∙ start_zero c.args.key.length b (omega arith)) in
    let stands = near_stands key (slice_get f.forks.items) 128 there.0 at.0 n c.in-Apart.bit laid zeros at.2 in
    next_before c.args.thread.now f trees are n (code_fits c.args.key.length c.args.key.start (omega arith) (omega arith)) place is at.0 c.in-Apart.slot at.1
    (subst (IsBefore key n (leaves_of at.0)) (sym at.4) stands)

pub returns-in-Before : goal.returns-in-Before
returns-in-Before c = λ place is.
    let trees = c.requires.near.0 in
    let are = c.requires.near.1 in
    let at = subst (λ (n : Nearby). IsNearby (key_in c.args.thread.now.gaps) c.args.forest.now.scale trees (code_of c.args.key) n) c.in-Apart.is c.requires.near.2 in
    let before = c.in-Before.ensures (key_in c.args.thread.now.gaps) trees at.0 are.forest at.1 at.2 in
    next_before c.args.thread.now c.args.forest.now trees are (code_of c.args.key) (code_fits c.args.key.length c.args.key.start (omega arith) (omega arith)) place is at.0 c.in-Before.slot at.1 before

pub returns-in-After : goal.returns-in-After
returns-in-After c = λ place is.
    let trees = c.requires.near.0 in
    let are = c.requires.near.1 in
    let at = subst (λ (n : Nearby). IsNearby (key_in c.args.thread.now.gaps) c.args.forest.now.scale trees (code_of c.args.key) n) c.in-Apart.is c.requires.near.2 in
    let after = c.in-After.ensures (key_in c.args.thread.now.gaps) trees at.0 are.forest at.1 at.2 in
    c.next.ensures place is.within
    (next_after c.args.thread.now c.args.forest.now trees are (code_of c.args.key) (code_fits c.args.key.length c.args.key.start (omega arith) (omega arith)) place is at.0 c.in-After.slot at.1 after)
