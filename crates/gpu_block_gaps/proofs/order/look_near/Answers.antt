use Rattle.std.proofs.Common.{◌≡◌, ◌/◌, ◌+◌, ◌^◌, ◌∙◌, sym, ap, subst}
use Rattle.std.proofs.lemmas.Option.{MatchOption-at_some, MatchOption-at_none}
use Rattle.gpu_block_gaps.specs.Key.{code_of}
use Rattle.gpu_block_gaps.specs.Order.{IsIn}
use Rattle.gpu_block_gaps.specs.Ordered.{code, key_in}
use Rattle.gpu_block_gaps.proofs.Indexing.{near_in, sorted_in}
use Rattle.gpu_block_gaps.proofs.order.look_near.Goals as goal

pub returns-in_default : goal.returns-in_default
returns-in_default c = λ trees are. MatchOption-at_none _ _ c.in_default.is (c.near.ensures (key_in c.args.thread.now.gaps) trees are.forest)

pub gap-requires : goal.gap-requires
gap-requires c =
    let trees = c.requires.indexed.0 in
    let are = c.requires.indexed.1 in
    let near = MatchOption-at_some _ _ c.in-Some.slot c.in-Some.is (c.near.ensures (key_in c.args.thread.now.gaps) trees are.forest) in
    let inside = near_in c.args.thread.now c.args.forest.now trees are (code_of c.args.key) _ near.0 near.1 in
    (c.sound.ensures.inside c.in-Some.slot (subst (λ l. IsIn l c.args.thread.now.order) (sym near.2) inside)).1

pub returns-in-Some-split : goal.returns-in-Some-split
returns-in-Some-split c = λ trees are.
    let near = MatchOption-at_some _ _ c.in-Some.slot c.in-Some.is (c.near.ensures (key_in c.args.thread.now.gaps) trees are.forest) in
    let split = c.in-Some-split.ensures in
    let other : code_of c.key_of.result ≡ key_in c.args.thread.now.gaps c.in-Some.slot = c.key_of.ensures ∙ ap code c.gap.ensures in
    let there = other ∙ ap (key_in c.args.thread.now.gaps) near.2 in (
      near.0,
      near.1,
      record {
        sorted = sorted_in c.args.thread.now c.args.forest.now trees are _ near.0 near.1;
        above = split.1 ∙ ap (λ n. n / 2 ^ (c.in-Some-split.bit + 1)) there;
        differs = λ same. split.2 (same ∙ sym (ap (λ n. n / 2 ^ c.in-Some-split.bit) there));
      },
      split.0,
      near.2,
    )

pub returns-in-None : goal.returns-in-None
returns-in-None c = λ trees are.
    let near = MatchOption-at_some _ _ c.in-Some.slot c.in-Some.is (c.near.ensures (key_in c.args.thread.now.gaps) trees are.forest) in
    let other : code_of c.key_of.result ≡ key_in c.args.thread.now.gaps c.in-Some.slot = c.key_of.ensures ∙ ap code c.gap.ensures in
    (near.0, near.1, near.2, sym (ap code_of c.in-None.ensures ∙ other))
