use Rattle.std.proofs.Common.{rules}
use Rattle.gpu_cost.proofs.cost.Cost.begin.Goals as goal

pub returns : goal.returns
returns g c = search rules
