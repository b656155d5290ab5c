use Rattle.std.proofs.Common.{rules, ◌≡◌}
use Rattle.gpu_plan.specs.Best.{NoneFits, all_orders}
use Rattle.gpu_plan.specs.declared.error.PlanError.TheVariants.{TooLarge}
use Rattle.gpu_plan_session.specs.PlanSession.{resources_of}
use Rattle.gpu_plan_session.proofs.Placing.{handed_on}
use Rattle.gpu_plan_session.proofs.place.solved.Goals as goal

pub returns-in_err-best-clause-large : goal.returns-in_err-best-clause-large
returns-in_err-best-clause-large c =
    handed_on (λ e. e ≡ TooLarge → NoneFits c.args.page (resources_of c.args.listed.now) all_orders) c.in_err-best.field-0.0 c.from_residual-in_err-best.result
    c.from_residual-in_err-best.ensures.1 (rw (c.deref.ensures.value, c.in_ok-resources.ensures) at c.in_err-best.ensures.large)

pub returns-clause-solved : goal.returns-clause-solved
returns-clause-solved c = search rules
