use Rattle.gpu_pool.proofs.OneStep.{step_once}
use Rattle.gpu_pool.proofs.laws.one_step.Goals as goal

pub returns : goal.returns
returns g c = step_once g.S.BlockSource.asks g.S.BlockSource.gives_back g.S.Handle.PartialEq.eq
