use Rattle.std.proofs.Common.{rules}
use Rattle.gpu_cost.proofs.cost.Cost.look_up.Goals as goal

pub returns-clause-lookups : goal.returns-clause-lookups
returns-clause-lookups c = search rules
