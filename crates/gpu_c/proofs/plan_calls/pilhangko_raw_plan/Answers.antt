use Rattle.std.proofs.Common.{rules}
use Rattle.gpu_c.specs.Plan.{CanPlan}
use Rattle.gpu_c.proofs.plan_calls.pilhangko_raw_plan.Goals as goal

pub returns-clause-out_of_memory : goal.returns-clause-out_of_memory
returns-clause-out_of_memory c = λ large.
    let can : CanPlan c.args.resources.now c.args.page_size c.args.offsets.now = search rules in
    (can, c.planned.ensures.large large)
