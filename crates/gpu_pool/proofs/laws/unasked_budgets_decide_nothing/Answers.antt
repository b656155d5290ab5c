use Rattle.gpu_pool.proofs.WithoutBudgets.{step_plain}
use Rattle.gpu_pool.proofs.laws.unasked_budgets_decide_nothing.Goals as goal

pub returns : goal.returns
returns g c = step_plain g.S.BlockSource.asks g.S.BlockSource.gives_back g.S.Handle.PartialEq.eq
