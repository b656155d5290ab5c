use Rattle.std.proofs.Common.{drop}
use Rattle.gpu_report.specs.ReportSvg.{row_bars_svg}
use Rattle.gpu_report.proofs.Writing.{WritesBefore}
use Rattle.gpu_report.proofs.report_svg.write_bars.Given as goal

abbrev pub invariant-loop-i : goal.invariant-loop-i
invariant-loop-i g l =
    WritesBefore g.W.Write.write_str_gives l.initial.f l.f (row_bars_svg l.largest l.rows l.i (drop l.i l.fn.blocks)) (row_bars_svg l.largest l.rows 0 l.fn.blocks)
