use Rattle.std.proofs.Common.{rules}
use Rattle.gpu_sim_base.proofs.numbers.Numbers.add.Goals as goal

pub returns-clause-number : goal.returns-clause-number
returns-clause-number g c = search rules
