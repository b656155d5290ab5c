use Rattle.gpu_plan.proofs.OneOrder.{order_one}
use Rattle.gpu_plan.proofs.laws.order_is_one.Goals as goal

pub returns : goal.returns
returns c = λ resources indices others a b. order_one c.args.order resources indices others a b
