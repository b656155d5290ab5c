use Rattle.gpu_plan_session.proofs.Placing.{refuses}
use Rattle.gpu_plan_session.proofs.session.PlanSession.solve.Goals as goal

pub returns-in-Err : goal.returns-in-Err
returns-in-Err c = rw (← c.self.view_is) (refuses _ c.in-Err.error c.number_of.result c.number_of.ensures (rw c.deref.ensures.value at c.in-Err.ensures.large))
