use Rattle.gpu_pool.proofs.Moving.{behind_distinct}
use Rattle.gpu_pool.proofs.pool.Pool.abandon_move.Goals as goal

pub returns-clause-stays : goal.returns-clause-stays
returns-clause-stays g c = c.free.ensures.keeps c.args.index c.args.from.now c.requires.live (behind_distinct c.args.index c.args.from.now c.args.to.now c.requires.ahead)
