use Rattle.gpu_pool.proofs.Moving.{ahead_distinct, frees_left}
use Rattle.gpu_pool.proofs.pool.Pool.finish_move.Goals as goal

pub returns-clause-stays : goal.returns-clause-stays
returns-clause-stays g c = c.free.ensures.keeps c.args.index c.args.to.now c.requires.live (ahead_distinct c.args.index c.args.from.now c.args.to.now c.requires.ahead)

pub returns-clause-fewer : goal.returns-clause-fewer
returns-clause-fewer g c =
    frees_left g.S.BlockSource.gives_back g.S.Handle.PartialEq.eq c.args.index c.args.from.now c.args.self.now c.free.result c.free.new.self c.free.ensures.frees
