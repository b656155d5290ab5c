use Rattle.std.proofs.Common.{rules}
use Rattle.gpu_sim_base.proofs.numbers.Numbers.issued.Goals as goal

pub returns : goal.returns
returns g c = search rules
