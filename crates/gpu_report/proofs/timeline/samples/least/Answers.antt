use Rattle.std.proofs.Common.{arith}
use Rattle.gpu_report.proofs.Cells.{drop-step}
use Rattle.gpu_report.proofs.Measures.{least-next, least-first, least-last, min-below}
use Rattle.gpu_report.proofs.timeline.samples.least.Goals as goal

pub loop-sample-init : goal.loop-sample-init
loop-sample-init c = (least-first c.args.measure c.args.samples.now, omega arith)

pub loop-sample-preserved : goal.loop-sample-preserved
loop-sample-preserved c =
    let split = drop-step c.args.samples.now c.loop-sample.sample-index c.sample-item.result c.loop-sample-test.true c.sample-item.is in
    rw (c.min-fewest.ensures, c.amount.ensures)
    (least-next c.args.measure c.loop-sample.fewest _ c.sample-item.result _ _ split c.loop-sample.invariant.0, min-below _ _ c.loop-sample.invariant.1)

pub returns : goal.returns
returns c = least-last c.args.measure c.loop-sample.fewest _ c.args.samples.now c.loop-sample.sample-index c.loop-sample-test.false c.loop-sample.invariant.0 c.loop-sample.invariant.1
