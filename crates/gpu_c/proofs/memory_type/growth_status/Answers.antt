use Rattle.std.proofs.Common.{rules}
use Rattle.gpu_c.proofs.memory_type.growth_status.Goals as goal

pub returns-then-fits_budget-clause-within : goal.returns-then-fits_budget-clause-within
returns-then-fits_budget-clause-within c = search rules
