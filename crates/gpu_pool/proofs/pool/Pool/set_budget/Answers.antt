use Rattle.std.proofs.Common.{rules}
use Rattle.gpu_pool.proofs.pool.Pool.set_budget.Goals as goal

pub returns-clause-budgets : goal.returns-clause-budgets
returns-clause-budgets g c = search rules
