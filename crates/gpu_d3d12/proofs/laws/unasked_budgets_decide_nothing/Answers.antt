use Rattle.gpu_d3d12.proofs.WithoutBudgets.{step_plain}
use Rattle.gpu_d3d12.proofs.laws.unasked_budgets_decide_nothing.Goals as goal

pub returns : goal.returns
returns c = step_plain
