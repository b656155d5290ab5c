use Rattle.std.proofs.Common.{rules}
use Rattle.gpu_c.proofs.memory_type.AwaitingType.set_budget.Goals as goal

pub returns-in-None-clause-bounded : goal.returns-in-None-clause-bounded
returns-in-None-clause-bounded c = search rules
