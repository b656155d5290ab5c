use Rattle.std.proofs.Common.{rules}
use Rattle.gpu_pool.proofs.pool.Pool.leaks.Goals as goal

pub returns : goal.returns
returns g c = search rules
