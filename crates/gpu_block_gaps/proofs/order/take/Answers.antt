use Rattle.std.proofs.Common.{◌≡◌, ◌<◌, ◌+◌, ◌∙◌, ℕ, List, length, sym, ap, arith}
use Rattle.std.proofs.lemmas.List.Edits.{length-remove}
use Rattle.gpu_block_gaps.specs.Index.{IsRemoved}
use Rattle.gpu_block_gaps.specs.Ordered.{key_in, gaps_of, IsIndexed}
use Rattle.gpu_block_gaps.proofs.Indexing.{at_within, slot_tree, slot_near, take_indexed, take_removed}
use Rattle.gpu_block_gaps.proofs.order.take.Goals.{After-remove}
use Rattle.gpu_block_gaps.proofs.order.take.Goals as goal

pub remove-slot-requires-clause-there : goal.remove-slot-requires-clause-there
remove-slot-requires-clause-there c =
    let trees = c.requires.indexed.0 in
    let are = c.requires.indexed.1 in
    let there = slot_tree c.args.thread.now c.args.forest.now trees are c.args.key.length c.args.key.start c.requires.there in
    (key_in c.args.thread.now.gaps, trees, are.forest, there.tree, there.is)

pub remove-requires : goal.remove-requires
remove-requires c =
    let trees = c.requires.indexed.0 in
    let are = c.requires.indexed.1 in
    let there = slot_tree c.args.thread.now c.args.forest.now trees are c.args.key.length c.args.key.start c.requires.there in
    let near = c.remove-slot.ensures.leaf (key_in c.args.thread.now.gaps) trees there.tree are.forest there.is in
    let at = slot_near c.args.thread.now c.args.forest.now trees are c.args.key.length c.args.key.start c.requires.there there.tree there.is in
    (c.requires.there.at, at_within c.args.thread.now c.args.forest.now trees are c.args.key.length c.args.key.start c.requires.there, sym (near ∙ at))

both : (c : After-remove) → IsIndexed c.remove.new.self c.remove-slot.new.self × IsRemoved (gaps_of c.args.thread.now) c.args.key.length c.args.key.start (gaps_of c.remove.new.self) × (length c.remove.new.self.order + 1 ≡ length c.args.thread.now.order)
both c =
    let t = c.args.thread.now in
    let f = c.args.forest.now in
    let trees = c.requires.indexed.0 in
    let are = c.requires.indexed.1 in
    let has = c.requires.there in
    let there = slot_tree t f trees are c.args.key.length c.args.key.start has in
    let near = c.remove-slot.ensures.leaf (key_in t.gaps) trees there.tree are.forest there.is in
    let at = slot_near t f trees are c.args.key.length c.args.key.start has there.tree there.is in
    let within = at_within t f trees are c.args.key.length c.args.key.start has in
    let lost = c.remove-slot.ensures.trees (key_in t.gaps) trees there.tree are.forest there.is in
    let order = c.remove.ensures.order has.at within (near ∙ at) in
    let some : 0 < length t.gaps = (let few = c.sound.ensures.few.1 in omega arith) in (
      take_indexed t f trees are c.args.key.length c.args.key.start has c.remove.new.self c.remove-slot.new.self there.tree lost.0 there.is c.remove-slot.ensures.room order c.remove.ensures.gaps (omega arith) (omega arith) some lost.1 lost.2,
      take_removed t f trees are c.args.key.length c.args.key.start has c.remove.new.self c.remove-slot.new.self there.tree lost.0 there.is c.remove-slot.ensures.room order c.remove.ensures.gaps (omega arith) (omega arith) some lost.1 lost.2,
      ap (λ (xs : List ℕ). length xs + 1) order ∙ length-remove t.order has.at within,
    )

pub returns-clause-indexed : goal.returns-clause-indexed
returns-clause-indexed c = (both c).0

pub returns-clause-gaps : goal.returns-clause-gaps
returns-clause-gaps c = (both c).1

pub returns-clause-fewer : goal.returns-clause-fewer
returns-clause-fewer c = (both c).2
