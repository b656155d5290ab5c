use Rattle.std.proofs.Common.{sym, ap, ◌∙◌}
use Rattle.gpu_sim_metal.specs.Objects.{held_by}
use Rattle.gpu_sim_metal.proofs.Sets.{after, kept}
use Rattle.gpu_sim_metal.proofs.objects.make_room_in.Goals as goal

pub returns-clause-held : goal.returns-clause-held
returns-clause-held c =
    let ss = c.args.numbers.now.slots.items in
    ap held_by (after ss _ _ c.args.number _ c.in-Some.set c.make_room-answer.new.self c.take_set.ensures.slots c.in-Some.is c.put.ensures)
    ∙ kept ss c.args.number c.in-Some.set c.make_room-answer.new.self (sym c.take_set.ensures.set ∙ c.in-Some.is) c.make_room-answer.ensures.members c.make_room-answer.ensures.committed
