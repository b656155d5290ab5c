use Rattle.std.proofs.Common.{refl, ◌≡◌, ◌<◌, ℕ, length, get_or, ap, sym, ◌∙◌}
use Rattle.std.specs.List.{remove}
use Rattle.gpu_block_gaps.specs.Thread.{Threaded}
use Rattle.gpu_block_gaps.specs.Records.{order_of, IsThread}
use Rattle.gpu_block_gaps.proofs.Threads.{slot_inside, ends_inside, removed}
use Rattle.gpu_block_gaps.proofs.thread.Thread.remove.Goals.{After-push_reserved}
use Rattle.gpu_block_gaps.proofs.thread.Thread.remove.Goals as goal

pub unlink-requires-clause-slot : goal.unlink-requires-clause-slot
unlink-requires-clause-slot c =
    let inside = slot_inside c.self.inside.records.items c.self.inside.records.items c.self.inside.records.items c.self.inside.spare.items c.self.inside.spare.items c.args.slot c.self.inside.spare.capacity 0 c.args.self.now.order c.requires.0 c.self.invariant (ap (λ (t : Threaded). t.order) c.self.view_is) c.requires.1 (sym c.requires.2) in
    inside

pub unlink-requires-clause-prev : goal.unlink-requires-clause-prev
unlink-requires-clause-prev c =
    let ends = ends_inside c.self.inside.records.items c.self.inside.records.items c.self.inside.records.items c.self.inside.spare.items c.self.inside.spare.items c.args.slot c.self.inside.spare.capacity 0 c.args.self.now.order c.requires.0 c.self.invariant (ap (λ (t : Threaded). t.order) c.self.view_is) c.requires.1 (sym c.requires.2) in
    ends.0

pub unlink-requires-clause-next : goal.unlink-requires-clause-next
unlink-requires-clause-next c =
    let ends = ends_inside c.self.inside.records.items c.self.inside.records.items c.self.inside.records.items c.self.inside.spare.items c.self.inside.spare.items c.args.slot c.self.inside.spare.capacity 0 c.args.self.now.order c.requires.0 c.self.invariant (ap (λ (t : Threaded). t.order) c.self.view_is) c.requires.1 (sym c.requires.2) in
    ends.1

-- what the records are afterwards, wherever the slot's place is
left : (c : After-push_reserved) (k : ℕ) → k < length c.args.self.now.order → c.args.slot ≡ get_or c.args.self.now.order k 0
    → IsThread c.unlink.new.records.items c.push_reserved.new.self.items c.push_reserved.new.self.capacity × (order_of c.unlink.new.records.items ≡ remove c.args.self.now.order k)
left c k lt there =
    removed c.self.inside.records.items c.self.inside.records.items c.unlink.new.records.items c.self.inside.spare.items c.push_reserved.new.self.items c.args.slot c.self.inside.spare.capacity c.push_reserved.new.self.capacity c.args.self.now.order k c.self.invariant
    (ap (λ (t : Threaded). t.order) c.self.view_is) lt there c.push_reserved.ensures.items c.push_reserved.ensures.capacity refl c.unlink.ensures.next c.unlink.ensures.prev
    c.unlink.ensures.count

pub invariant_of-self : goal.invariant_of-self
invariant_of-self c =
    (left c c.requires.0 c.requires.1 (sym c.requires.2)).0

pub returns-clause-order : goal.returns-clause-order
returns-clause-order c = λ k lt there. (left c k lt there).1

pub returns-clause-gaps : goal.returns-clause-gaps
returns-clause-gaps c =
    c.unlink.ensures.gaps ∙ ap (λ (t : Threaded). t.gaps) c.self.view_is
