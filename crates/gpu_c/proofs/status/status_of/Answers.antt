use Rattle.std.proofs.Common.{rules}
use Rattle.gpu_c.proofs.status.status_of.Goals as goal

pub returns-in-BudgetExceeded : goal.returns-in-BudgetExceeded
returns-in-BudgetExceeded c = search rules
