use Rattle.std.proofs.Common.{◌≡◌, drop}
use Rattle.gpu_report.specs.ReportSvg.{largest_of}
use Rattle.gpu_report.proofs.report_svg.largest.Given as goal

abbrev pub invariant-loop-block : goal.invariant-loop-block
invariant-loop-block l = largest_of l.largest (drop l.block-index l.blocks) ≡ largest_of 0 l.fn.blocks
