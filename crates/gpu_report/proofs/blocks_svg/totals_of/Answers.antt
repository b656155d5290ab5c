use Rattle.std.proofs.Common.{ap, sym, ◌∙◌, drop}
use Rattle.gpu_report.specs.BlocksSvg.{with_views}
use Rattle.gpu_report.proofs.Cells.{drop-step}
use Rattle.gpu_report.proofs.blocks_svg.totals_of.Goals as goal

pub loop-view-preserved : goal.loop-view-preserved
loop-view-preserved c =
    let split = drop-step c.args.views.now c.loop-view.view-index c.view-item.result c.loop-view-test.true c.view-item.is in
    rw c.with_view-totals.ensures (sym (ap (with_views c.loop-view.totals) split) ∙ c.loop-view.invariant)
