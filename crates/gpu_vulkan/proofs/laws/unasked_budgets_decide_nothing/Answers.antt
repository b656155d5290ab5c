use Rattle.gpu_vulkan.proofs.WithoutBudgets.{step_plain}
use Rattle.gpu_vulkan.proofs.laws.unasked_budgets_decide_nothing.Goals as goal

pub returns : goal.returns
returns c = step_plain
