use Rattle.std.proofs.Common.{Some, sym, ap, ◌∙◌}
use Rattle.gpu_sim_base.specs.Numbers.{with_item_at}
use Rattle.gpu_sim_base.proofs.Holding.{taken_and_put}
use Rattle.gpu_sim_metal.proofs.objects.take_set.Goals as goal

pub returns-in-Some-clause-slots : goal.returns-in-Some-clause-slots
returns-in-Some-clause-slots c =
    c.put.ensures
    ∙ ap (λ l. with_item_at l c.args.number (Some c.in-Some.object)) c.take.ensures.held
    ∙ taken_and_put c.args.numbers.now.slots.items c.args.number (Some c.in-Some.object) (sym c.take.ensures.item ∙ c.in-Some.is)
