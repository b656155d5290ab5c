use Rattle.std.proofs.Common.{◌≡◌, ap, sym}
use Rattle.gpu_block_gaps.specs.Thread.{Threaded}
use Rattle.gpu_block_gaps.specs.Records.{order_of, IsThread}
use Rattle.gpu_block_gaps.proofs.Threads.{slot_inside, same_links}
use Rattle.gpu_block_gaps.proofs.thread.Thread.set.Goals.{After-set_gap}
use Rattle.gpu_block_gaps.proofs.thread.Thread.set.Goals as goal

pub set_gap-requires : goal.set_gap-requires
set_gap-requires c =
    let inside = slot_inside c.self.inside.records.items c.self.inside.records.items c.self.inside.records.items c.self.inside.spare.items c.self.inside.spare.items c.args.slot c.self.inside.spare.capacity 0 c.args.self.now.order c.requires.0 c.self.invariant (ap (λ (t : Threaded). t.order) c.self.view_is) c.requires.1 (sym c.requires.2) in
    inside

-- what the records are afterwards
left : (c : After-set_gap) → IsThread c.set_gap.new.records.items c.self.inside.spare.items c.self.inside.spare.capacity × (order_of c.set_gap.new.records.items ≡ c.args.self.now.order)
left c =
    same_links c.self.inside.records.items c.set_gap.new.records.items c.self.inside.spare.items c.self.inside.spare.capacity c.args.self.now.order c.self.invariant (ap (λ (t : Threaded). t.order) c.self.view_is)
    c.set_gap.ensures.count c.set_gap.ensures.next c.set_gap.ensures.prev

pub invariant_of-self : goal.invariant_of-self
invariant_of-self c = (left c).0

pub returns-clause-order : goal.returns-clause-order
returns-clause-order c = (left c).1
