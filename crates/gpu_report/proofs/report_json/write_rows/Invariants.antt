use Rattle.std.proofs.Common.{◌++◌, ◌∷◌, take, map}
use Rattle.std.specs.List.{flat_map}
use Rattle.std.specs.Fmt.{HasWritten, IsPlainFormatter}
use Rattle.gpu_values.specs.Report.{row_of}
use Rattle.gpu_report.specs.ReportJson.{row_json}
use Rattle.gpu_report.proofs.report_json.write_rows.Given as goal

abbrev pub invariant-loop-row : goal.invariant-loop-row
invariant-loop-row g l =
    IsPlainFormatter l.initial.f → HasWritten g.W.Write.write_str_gives l.initial.f (flat_map (λ y. 44 ∷ row_json y) (map row_of (take l.row-index l.others))) l.f
