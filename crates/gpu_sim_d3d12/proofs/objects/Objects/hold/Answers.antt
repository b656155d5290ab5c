use Rattle.std.proofs.Common.{ap, ◌∙◌, arith, rules}
use Rattle.gpu_sim_base.specs.Numbers.{held_in}
use Rattle.gpu_sim_base.proofs.Holding.{not_held, added}
use Rattle.gpu_sim_d3d12.specs.Objects.{entry_of}
use Rattle.gpu_sim_d3d12.proofs.objects.Objects.hold.Goals as goal

pub returns-in-Ok-clause-number : goal.returns-in-Ok-clause-number
returns-in-Ok-clause-number c = (
  λ zero_is. omega (arith, c.in-Ok.ensures.number, zero_is),
  not_held entry_of c.args.self.now.numbers.slots.items c.in-Ok.number (omega (arith, c.in-Ok.ensures.number)),
)

pub returns-in-Ok-clause-holds : goal.returns-in-Ok-clause-holds
returns-in-Ok-clause-holds c =
    ap (held_in entry_of) c.in-Ok.ensures.held
    ∙ added entry_of c.args.self.now.numbers.slots.items c.args.object c.in-Ok.number c.in-Ok.ensures.number

pub returns-in-Err-clause-answer : goal.returns-in-Err-clause-answer
returns-in-Err-clause-answer c = search rules
