use Rattle.std.proofs.Common.{◌+◌, ◌*◌, ◌^◌, set, Some, None, sym, ap, subst, ◌∙◌, arith}
use Rattle.std.proofs.lemmas.List.{get_or-set_same, get_or-set_other}
use Rattle.gpu_block_gaps.specs.Tree.{tip}
use Rattle.gpu_block_gaps.specs.Forest.{IsForest, class_in, tree_at}
use Rattle.gpu_block_gaps.specs.Index.{IsReplaced}
use Rattle.gpu_block_gaps.specs.Thread.{blank}
use Rattle.gpu_block_gaps.specs.Ordered.{code, key_in, gaps_of, IsIndexed}
use Rattle.gpu_block_gaps.proofs.Indexing.{at_within, slot_tree}
use Rattle.gpu_block_gaps.proofs.Surface.{gaps_sorted}
use Rattle.gpu_block_gaps.proofs.Rekeyed.{the_slot, slot_here, slot_length, exchanged}
use Rattle.gpu_block_gaps.proofs.Moving.{gap_moved}
use Rattle.gpu_block_gaps.proofs.order.exchange.Goals.{After-set, After-set-then-stays_between}
use Rattle.gpu_block_gaps.proofs.order.exchange.Goals as goal

pub lone-requires : goal.lone-requires
lone-requires c =
    let t = c.args.thread.now in
    let trees = c.requires.indexed.0 in
    let are = c.requires.indexed.1 in
    let there = slot_tree t c.args.forest.now trees are c.args.size c.args.start c.requires.there in
    (key_in t.gaps, trees, are.forest, there.tree, ap (tree_at trees) c.class-from.ensures.class ∙ there.is)

pub set-requires : goal.set-requires
set-requires c =
    let t = c.args.thread.now in
    let trees = c.requires.indexed.0 in
    let are = c.requires.indexed.1 in
    let alone = ap (tree_at trees) (sym c.class-from.ensures.class) ∙ c.in-Some.ensures (key_in t.gaps) trees are.forest in
    slot_here t c.args.forest.now trees are c.args.size c.args.start c.requires.there c.in-Some.slot alone

both : (c : After-set) → IsIndexed c.set.new.self c.args.forest.now × IsReplaced (gaps_of c.args.thread.now) c.args.size c.args.start c.args.gap (gaps_of c.set.new.self)
both c =
    let t = c.args.thread.now in
    let trees = c.requires.indexed.0 in
    let are = c.requires.indexed.1 in
    let alone = ap (tree_at trees) (sym c.class-from.ensures.class) ∙ c.in-Some.ensures (key_in t.gaps) trees are.forest in
    let f = c.args.forest.now in
    let class = ap (class_in f.scale) (sym c.key_of.ensures) ∙ sym c.class-to.ensures.class ∙ sym c.if-from-to.true ∙ c.class-from.ensures.class in
    exchanged t f trees are c.args.size c.args.start c.requires.there c.in-Some.slot alone c.args.gap (omega arith, omega arith) class
    (λ l is. (c.sound.ensures.inside l is).1) c.set.new.self c.set.ensures.order c.set.ensures.gaps

pub returns-then-from-to-clause-indexed : goal.returns-then-from-to-clause-indexed
returns-then-from-to-clause-indexed c = (both c).0

pub returns-then-from-to-clause-gaps : goal.returns-then-from-to-clause-gaps
returns-then-from-to-clause-gaps c = (both c).1

pub stays_between-requires-clause-there : goal.stays_between-requires-clause-there
stays_between-requires-clause-there c =
    let t = c.args.thread.now in
    let trees = c.requires.indexed.0 in
    let are = c.requires.indexed.1 in
    let alone = ap (tree_at trees) (sym c.class-from.ensures.class) ∙ c.in-Some.ensures (key_in t.gaps) trees are.forest in
    slot_here t c.args.forest.now trees are c.args.size c.args.start c.requires.there c.in-Some.slot alone

pub stays_between-requires-clause-ordered : goal.stays_between-requires-clause-ordered
stays_between-requires-clause-ordered c = gaps_sorted c.args.thread.now c.args.forest.now c.requires.indexed.0 c.requires.indexed.1

pub stays_between-requires-clause-size : goal.stays_between-requires-clause-size
stays_between-requires-clause-size c =
    let t = c.args.thread.now in
    let trees = c.requires.indexed.0 in
    let are = c.requires.indexed.1 in
    let alone = ap (tree_at trees) (sym c.class-from.ensures.class) ∙ c.in-Some.ensures (key_in t.gaps) trees are.forest in
    slot_length t c.args.forest.now trees are c.args.size c.args.start c.requires.there c.in-Some.slot alone

pub move_leaf-requires-clause-from : goal.move_leaf-requires-clause-from
move_leaf-requires-clause-from c =
    let key = key_in c.args.thread.now.gaps in
    let trees = c.requires.indexed.0 in
    let forest = c.requires.indexed.1.forest in
    (key, trees, forest, tip c.in-Some.slot, c.in-Some.ensures key trees forest)

pub set-requires-then-stays_between : goal.set-requires-then-stays_between
set-requires-then-stays_between c =
    let t = c.args.thread.now in
    let trees = c.requires.indexed.0 in
    let are = c.requires.indexed.1 in
    let alone = ap (tree_at trees) (sym c.class-from.ensures.class) ∙ c.in-Some.ensures (key_in t.gaps) trees are.forest in
    slot_here t c.args.forest.now trees are c.args.size c.args.start c.requires.there c.in-Some.slot alone

moved : (c : After-set-then-stays_between) → IsIndexed c.set-then-stays_between.new.self c.move_leaf.new.self × IsReplaced (gaps_of c.args.thread.now) c.args.size c.args.start c.args.gap (gaps_of c.set-then-stays_between.new.self)
moved c =
    let t = c.args.thread.now in
    let f = c.args.forest.now in
    let f' = c.move_leaf.new.self in
    let g = c.args.gap in
    let trees = c.requires.indexed.0 in
    let are = c.requires.indexed.1 in
    let has = c.requires.there in
    let slot = c.in-Some.slot in
    let from = c.class-from.ensures.class in
    let to = c.class-to.ensures.class ∙ ap (class_in f.scale) c.key_of.ensures in
    let only = c.in-Some.ensures (key_in t.gaps) trees are.forest in
    let alone = ap (tree_at trees) (sym from) ∙ only in
    let empty = (c.has_no_tree.ensures (key_in t.gaps) trees are.forest).0 c.if-has_no_tree.true in
    let is = the_slot t f trees are c.args.size c.args.start has slot alone in
    let within = at_within t f trees are c.args.size c.args.start has in
    let inside = (c.sound.ensures.inside slot (has.at, within, is)).1 in
    let between = (c.stays_between.ensures has.at within (sym is)).0 c.if-stays_between.true in
    let gaps' = set t.gaps slot g in
    let class = to ∙ ap (class_in f.scale) (sym (ap code (get_or-set_same t.gaps slot g blank inside))) in
    let forest = c.move_leaf.ensures.trees (key_in t.gaps) (key_in gaps') trees slot are.forest only empty (λ l other. ap code (get_or-set_other t.gaps slot l g blank other)) class in
    let forest' = subst (λ k. IsForest (key_in gaps') f' (set (set trees (class_in f.scale (c.args.size * 2 ^ 64 + c.args.start)) None) k (Some (tip slot)))) to
    (subst (λ k. IsForest (key_in gaps') f' (set (set trees k None) c.class-to.result (Some (tip slot)))) from forest) in
    gap_moved t f trees are c.args.size c.args.start has slot is inside g (omega arith, omega arith) alone (ap (tree_at trees) (sym to) ∙ empty) between.0 between.1
    c.set-then-stays_between.new.self f' c.move_leaf.ensures.room c.set-then-stays_between.ensures.order c.set-then-stays_between.ensures.gaps forest'

pub returns-then-stays_between-clause-indexed : goal.returns-then-stays_between-clause-indexed
returns-then-stays_between-clause-indexed c = (moved c).0

pub returns-then-stays_between-clause-gaps : goal.returns-then-stays_between-clause-gaps
returns-then-stays_between-clause-gaps c = (moved c).1
