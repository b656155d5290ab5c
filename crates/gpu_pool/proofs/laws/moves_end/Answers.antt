use Rattle.gpu_pool.proofs.Moving.{moved_left}
use Rattle.gpu_pool.proofs.laws.moves_end.Goals as goal

pub returns : goal.returns
returns g c = moved_left g.S.BlockSource.gives_back g.S.Handle.PartialEq.eq
