use Rattle.gpu_metal.proofs.OneStep.{step_plain}
use Rattle.gpu_metal.proofs.laws.unasked_budgets_decide_nothing.Goals as goal

pub returns : goal.returns
returns c = step_plain
