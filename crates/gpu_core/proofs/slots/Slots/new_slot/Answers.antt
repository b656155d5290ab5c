use Rattle.std.proofs.Common.{arith}
use Rattle.gpu_core.specs.Slots.{slots_of}
use Rattle.gpu_core.proofs.EmptySlots.{lowest_vacant}
use Rattle.gpu_core.proofs.slots.Slots.new_slot.Goals as goal

pub returns-then-is_dedicated : goal.returns-then-is_dedicated
returns-then-is_dedicated g c =
    let own = c.self.inside in
    let lowest = c.lowest.ensures in
    let many = c.self.invariant.as_many in
    rw (← c.self.view_is, c.if-is_dedicated.true)
    (lowest_vacant own.notes (slots_of own.blocks.items) c.lowest.result c.self.invariant (omega (arith, lowest.within, many)) lowest.passed (λ below. lowest.stops (omega (arith, below, many))))
