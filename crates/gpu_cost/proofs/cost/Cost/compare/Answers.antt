use Rattle.std.proofs.Common.{rules}
use Rattle.gpu_cost.proofs.cost.Cost.compare.Goals as goal

pub returns-clause-comparisons : goal.returns-clause-comparisons
returns-clause-comparisons c = search rules

pub returns-clause-tests : goal.returns-clause-tests
returns-clause-tests c = search rules
