use Rattle.gpu_report.proofs.Cells.{drop-step}
use Rattle.gpu_report.proofs.Measures.{greatest-next}
use Rattle.gpu_report.proofs.timeline.samples.greatest.Goals as goal

pub loop-sample-preserved : goal.loop-sample-preserved
loop-sample-preserved c =
    let split = drop-step c.args.samples.now c.loop-sample.sample-index c.sample-item.result c.loop-sample-test.true c.sample-item.is in
    rw (c.max-most.ensures, c.amount.ensures) (greatest-next c.args.measure c.loop-sample.most _ c.sample-item.result _ _ split c.loop-sample.invariant)
