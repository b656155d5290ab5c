use Rattle.std.proofs.Common.{rules}
use Rattle.gpu_cost.proofs.cost.Cost.test.Goals as goal

pub returns-clause-tests : goal.returns-clause-tests
returns-clause-tests c = search rules
