use Rattle.std.proofs.Common.{arith, sym, ap, subst}
use Rattle.std.proofs.lemmas.Grind.{common_steps}
use Rattle.gpu_core.specs.Slots.{slots_of, AreNoted}
use Rattle.gpu_core.proofs.Noted.{still_noted}
use Rattle.gpu_core.proofs.slots.Slots.reserve.Goals as goal

pub returns-clause-room : goal.returns-clause-room
returns-clause-room g c = grind (arith, common_steps)

pub invariant_of-self-in_err-reserve-2 : goal.invariant_of-self-in_err-reserve-2
invariant_of-self-in_err-reserve-2 g c =
    let notes = c.reserve-then-is_none in
    subst (AreNoted notes.new.self) (sym (ap slots_of c.reserve.ensures.items)) (still_noted c.self.inside.notes notes.new.self (slots_of c.self.inside.blocks.items) c.self.invariant notes.ensures.longest notes.ensures.vacant)

pub invariant_of-self-in-Continue-branch-2 : goal.invariant_of-self-in-Continue-branch-2
invariant_of-self-in-Continue-branch-2 g c =
    let notes = c.reserve-then-is_none in
    subst (AreNoted notes.new.self) (sym (ap slots_of c.reserve.ensures.items)) (still_noted c.self.inside.notes notes.new.self (slots_of c.self.inside.blocks.items) c.self.invariant notes.ensures.longest notes.ensures.vacant)
