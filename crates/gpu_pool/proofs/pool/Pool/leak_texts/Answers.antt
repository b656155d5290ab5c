use Rattle.std.proofs.Common.{rules}
use Rattle.gpu_pool.proofs.pool.Pool.leak_texts.Goals as goal

pub returns-clause-texts : goal.returns-clause-texts
returns-clause-texts g c = search rules
