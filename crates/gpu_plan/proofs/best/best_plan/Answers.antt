use Rattle.std.proofs.Common.{arith}
use Rattle.gpu_plan.proofs.Choice.{found_by, all_numbered, best_more, best_all}
use Rattle.gpu_plan.proofs.best.best_plan.Goals as goal

pub loop-order-preserved : goal.loop-order-preserved
loop-order-preserved c =
    let a = c.args in
    let said = c.in_ok-plan.ensures in
    best_more a.page a.resources.now c.loop-order.order-index _ (all_numbered c.loop-order.order-index _ (omega arith)) c.loop-order.best c.in_ok-plan.plan c.better-best.result c.loop-order.invariant
    (found_by a.page a.resources.now _ c.in_ok-plan.plan said.order said.planned said.heap said.fits said.large) c.better-best.ensures

pub returns : goal.returns
returns c = best_all c.args.page c.args.resources.now c.loop-order.order-index c.loop-order.best (omega arith) c.loop-order.invariant
