use Rattle.std.proofs.Common.{ap, sym, ◌∙◌}
use Rattle.gpu_report.specs.ReportSvg.{largest_of}
use Rattle.gpu_report.proofs.Cells.{drop-at, no_block}
use Rattle.gpu_report.proofs.report_svg.largest.Goals as goal

pub loop-block-preserved : goal.loop-block-preserved
loop-block-preserved c =
    let split = drop-at c.args.blocks.now c.loop-block.block-index no_block c.loop-block-test.true in
    rw c.max-largest.ensures (sym (ap (largest_of c.loop-block.largest) split) ∙ c.loop-block.invariant)
