use Rattle.gpu_core.proofs.Runs.{within_raised}
use Rattle.gpu_core.proofs.marks.Marks.change.Goals as goal

pub invariant_of-self : goal.invariant_of-self
invariant_of-self c =
    let own = c.self.inside in
    within_raised own.each.items own.runs.items own.spans.items own.stretches.items c.raise.new.numbers.items c.raise-then-mark-old.new.numbers.items c.raise-then-mark-old-2.new.numbers.items
    c.args.slot c.args.mark c.self.invariant (rw (← c.self.view_is) at c.requires) c.raise.ensures.raised c.raise-then-mark-old.ensures.raised c.raise-then-mark-old-2.ensures.raised
