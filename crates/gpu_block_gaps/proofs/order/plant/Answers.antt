use Rattle.std.proofs.Common.{◌≡◌, ◌<◌, ℕ, None, subst, arith}
use Rattle.std.proofs.lemmas.Option.{MatchOption-at_some, MatchOption-at_none}
use Rattle.gpu_block_gaps.specs.Key.{code_of}
use Rattle.gpu_block_gaps.specs.Tree.{tip}
use Rattle.gpu_block_gaps.specs.Forest.{class_in, tree_at, IsFirstLater}
use Rattle.gpu_block_gaps.specs.declared.order.Nearby.{Nearby}
use Rattle.gpu_block_gaps.specs.Ordered.{key_in, IsNearby}
use Rattle.gpu_block_gaps.proofs.Ordered.{gains_first, gains_beside}
use Rattle.gpu_block_gaps.proofs.Indexing.{code_fits, next_later, next_none, next_before, next_after}
use Rattle.gpu_block_gaps.proofs.order.plant.Goals as goal

pub returns-in-Some-clause-trees : goal.returns-in-Some-clause-trees
returns-in-Some-clause-trees c = λ at trees is has near.
    let none = subst (λ (n : Nearby). IsNearby at c.args.forest.now.scale trees (code_of c.args.key) n) c.in-Nothing.is near in
    (tip c.args.slot, c.insert_first.ensures.trees at trees is has none, gains_first trees (class_in c.args.forest.now.scale (code_of c.args.key)) c.args.slot none)

pub returns-in-None-clause-trees : goal.returns-in-None-clause-trees
returns-in-None-clause-trees c = λ at trees is has near.
    let none = subst (λ (n : Nearby). IsNearby at c.args.forest.now.scale trees (code_of c.args.key) n) c.in-Nothing.is near in
    (tip c.args.slot, c.insert_first.ensures.trees at trees is has none, gains_first trees (class_in c.args.forest.now.scale (code_of c.args.key)) c.args.slot none)

pub returns-in-Before-clause-trees : goal.returns-in-Before-clause-trees
returns-in-Before-clause-trees c = λ at trees is has near.
    let split = subst (λ (n : Nearby). IsNearby at c.args.forest.now.scale trees (code_of c.args.key) n) c.in-Apart.is near in
    let grown = c.insert_beside.ensures.trees at trees split.0 is has split.1 split.2 in
    (grown.0, grown.1, gains_beside trees (class_in c.args.forest.now.scale (code_of c.args.key)) c.args.slot split.0 grown.0 split.1 grown.2)

pub returns-in-After-clause-trees : goal.returns-in-After-clause-trees
returns-in-After-clause-trees c = λ at trees is has near.
    let split = subst (λ (n : Nearby). IsNearby at c.args.forest.now.scale trees (code_of c.args.key) n) c.in-Apart.is near in
    let grown = c.insert_beside.ensures.trees at trees split.0 is has split.1 split.2 in
    (grown.0, grown.1, gains_beside trees (class_in c.args.forest.now.scale (code_of c.args.key)) c.args.slot split.0 grown.0 split.1 grown.2)

pub returns-in-Some-clause-next : goal.returns-in-Some-clause-next
returns-in-Some-clause-next c = λ place is.
    let trees = c.requires.indexed.0 in
    let are = c.requires.indexed.1 in
    let none = subst (λ (n : Nearby). IsNearby (key_in c.args.thread.now.gaps) c.args.forest.now.scale trees (code_of c.args.key) n) c.in-Nothing.is (c.requires.near trees are) in
    let later = subst (λ k. IsFirstLater trees k c.in-Some.later) c.requires.class (MatchOption-at_some _ _ c.in-Some.later c.in-Some.is (c.first_later-next.ensures (key_in c.args.thread.now.gaps) trees are.forest)) in
    next_later c.args.thread.now c.args.forest.now trees are (code_of c.args.key) (code_fits c.args.key.length c.args.key.start (omega arith) (omega arith)) place is c.in-Some.later none later

pub returns-in-None-clause-next : goal.returns-in-None-clause-next
returns-in-None-clause-next c = λ place is.
    let trees = c.requires.indexed.0 in
    let are = c.requires.indexed.1 in
    let none = subst (λ (n : Nearby). IsNearby (key_in c.args.thread.now.gaps) c.args.forest.now.scale trees (code_of c.args.key) n) c.in-Nothing.is (c.requires.near trees are) in
    let behind = subst (λ k. (d : ℕ) → k < d → tree_at trees d ≡ None) c.requires.class (MatchOption-at_none _ _ c.in-None.is (c.first_later-next.ensures (key_in c.args.thread.now.gaps) trees are.forest)) in
    next_none c.args.thread.now c.args.forest.now trees are (code_of c.args.key) (code_fits c.args.key.length c.args.key.start (omega arith) (omega arith)) place is none behind

pub returns-in-Before-clause-next : goal.returns-in-Before-clause-next
returns-in-Before-clause-next c = λ place is.
    let trees = c.requires.indexed.0 in
    let are = c.requires.indexed.1 in
    let at = subst (λ (n : Nearby). IsNearby (key_in c.args.thread.now.gaps) c.args.forest.now.scale trees (code_of c.args.key) n) c.in-Apart.is (c.requires.near trees are) in
    let before = c.in-Before.ensures.place (key_in c.args.thread.now.gaps) trees at.0 are.forest at.1 at.2 in
    next_before c.args.thread.now c.args.forest.now trees are (code_of c.args.key) (code_fits c.args.key.length c.args.key.start (omega arith) (omega arith)) place is at.0 c.in-Before.leaf at.1 before

pub returns-in-After-clause-next : goal.returns-in-After-clause-next
returns-in-After-clause-next c = λ place is.
    let trees = c.requires.indexed.0 in
    let are = c.requires.indexed.1 in
    let at = subst (λ (n : Nearby). IsNearby (key_in c.args.thread.now.gaps) c.args.forest.now.scale trees (code_of c.args.key) n) c.in-Apart.is (c.requires.near trees are) in
    let after = c.in-After.ensures.place (key_in c.args.thread.now.gaps) trees at.0 are.forest at.1 at.2 in
    c.next.ensures place is.within
    (next_after c.args.thread.now c.args.forest.now trees are (code_of c.args.key) (code_fits c.args.key.length c.args.key.start (omega arith) (omega arith)) place is at.0 c.in-After.leaf at.1 after)
