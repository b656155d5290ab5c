use Rattle.std.proofs.Common.{rules}
use Rattle.gpu_pool.proofs.pool.Pool.destroy.Goals as goal

pub returns-clause-none : goal.returns-clause-none
returns-clause-none g c = search rules

pub returns-clause-gives_back : goal.returns-clause-gives_back
returns-clause-gives_back g c = search rules
