use Rattle.std.proofs.Common.{◌≡◌, drop}
use Rattle.gpu_report.specs.BlocksSvg.{totals_of, with_views}
use Rattle.gpu_report.proofs.blocks_svg.totals_of.Given as goal

abbrev pub invariant-loop-view : goal.invariant-loop-view
invariant-loop-view l = with_views l.totals (drop l.view-index l.views) ≡ totals_of l.fn.views
