use Rattle.gpu_plan.proofs.OnePlan.{offsets_one}
use Rattle.gpu_plan.proofs.laws.plan_is_one.Goals as goal

pub returns : goal.returns
returns c = λ resources offsets others a b. offsets_one c.args.page c.args.order resources offsets others a b
