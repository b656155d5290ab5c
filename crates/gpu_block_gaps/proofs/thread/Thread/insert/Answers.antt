use Rattle.std.proofs.Common.{refl, ◌≡◌, ◌≤◌, List, ℕ, length, set, get_or, ap, sym, ◌∙◌, arith}
use Rattle.std.specs.List.{insert}
use Rattle.gpu_block_gaps.specs.declared.index.Gap.{Gap}
use Rattle.gpu_block_gaps.specs.Thread.{Threaded}
use Rattle.gpu_block_gaps.specs.Records.{blank_record, last_of, order_of, IsThread}
use Rattle.gpu_block_gaps.proofs.Threads.{last_is, next_at, prev_at, inserted}
use Rattle.gpu_block_gaps.proofs.thread.Thread.insert.Goals.{After-link}
use Rattle.gpu_block_gaps.proofs.thread.Thread.insert.Goals as goal

pub index-requires : goal.index-requires
index-requires c =
    let there = c.requires.there in
    let order = ap (λ (t : Threaded). t.order) c.self.view_is in
    let at = next_at c.self.inside.records.items c.self.inside.records.items c.self.inside.records.items c.self.inside.spare.items c.pop.new.self.items c.in-Some.slot c.self.inside.spare.capacity 0 c.args.next c.args.self.now.order there.0 blank_record c.self.invariant order c.in-Some.ensures.items there.1 there.2 in
    let a = at.0 in
    omega arith

pub link-requires-clause-prev : goal.link-requires-clause-prev
link-requires-clause-prev c =
    let there = c.requires.there in
    let at = prev_at c.self.inside.records.items c.self.inside.records.items c.self.inside.records.items c.self.inside.spare.items c.pop.new.self.items c.in-Some.slot c.self.inside.spare.capacity c.pop.new.self.capacity c.args.next c.args.self.now.order there.0 c.index.result.now c.self.invariant (ap (λ (t : Threaded). t.order) c.self.view_is) c.in-Some.ensures.items there.1 there.2 c.index.ensures c.prev-prev.result c.prev-prev.ensures.is in
    (at.0, at.1)

pub link-requires-clause-next : goal.link-requires-clause-next
link-requires-clause-next c =
    let there = c.requires.there in
    let at = next_at c.self.inside.records.items c.self.inside.records.items c.self.inside.records.items c.self.inside.spare.items c.pop.new.self.items c.in-Some.slot c.self.inside.spare.capacity c.pop.new.self.capacity c.args.next c.args.self.now.order there.0 blank_record c.self.invariant (ap (λ (t : Threaded). t.order) c.self.view_is) c.in-Some.ensures.items there.1 there.2 in
    (at.0, at.1)

-- what the records are afterwards, wherever the slot's place is
left : (c : After-link) (k : ℕ) → k ≤ length c.args.self.now.order → c.args.next ≡ get_or c.args.self.now.order k 0
    → IsThread c.link.new.records.items c.pop.new.self.items c.pop.new.self.capacity × (order_of c.link.new.records.items ≡ insert c.args.self.now.order k c.in-Some.slot)
left c k le there =
    inserted c.self.inside.records.items c.self.inside.records.items c.link.new.records.items c.self.inside.spare.items c.pop.new.self.items c.in-Some.slot c.self.inside.spare.capacity c.pop.new.self.capacity c.args.next c.args.self.now.order k c.index.result.now c.self.invariant
    (ap (λ (t : Threaded). t.order) c.self.view_is) c.in-Some.ensures.items le there c.index.ensures c.prev-prev.result c.prev-prev.ensures.is c.in-Some.ensures.capacity refl c.link.ensures.next c.link.ensures.prev
    c.link.ensures.count

pub invariant_of-self : goal.invariant_of-self
invariant_of-self c =
    let there = c.requires.there in
    (left c there.0 there.1 there.2).0

slot_is : (c : After-link) → c.in-Some.slot ≡ c.args.self.now.vacant
slot_is c =
    sym (ap last_of c.in-Some.ensures.items ∙ last_is c.pop.new.self.items c.in-Some.slot) ∙ ap (λ (t : Threaded). t.vacant) c.self.view_is

pub returns-clause-order : goal.returns-clause-order
returns-clause-order c = λ k le there. (left c k le there).1 ∙ ap (insert c.args.self.now.order k) (slot_is c)

pub returns-clause-gaps : goal.returns-clause-gaps
returns-clause-gaps c =
    c.link.ensures.gaps
    ∙ ap (λ (gs : List Gap). set gs c.in-Some.slot c.args.gap) (ap (λ (t : Threaded). t.gaps) c.self.view_is)
    ∙ ap (λ l. set c.args.self.now.gaps l c.args.gap) (slot_is c)
