use Rattle.std.proofs.Common.{take}
use Rattle.std.specs.List.{flat_map}
use Rattle.std.specs.Fmt.{HasWritten, IsPlainFormatter}
use Rattle.gpu_report.specs.Svg.{cell_svg}
use Rattle.gpu_report.specs.ReportSvg.{row_cell}
use Rattle.gpu_report.proofs.report_svg.write_rows.Given as goal

abbrev pub invariant-loop-row : goal.invariant-loop-row
invariant-loop-row g l =
    IsPlainFormatter l.initial.f → HasWritten g.W.Write.write_str_gives l.initial.f (flat_map (λ a. cell_svg l.scale.size l.scale.width (row_cell a)) (take l.row-index l.rows)) l.f
