use Rattle.std.proofs.Common.{◌≡◌, map, take}
use Rattle.gpu_values.specs.Report.{row_of}
use Rattle.gpu_values.proofs.report.clone_rows.Given as goal

abbrev pub invariant-loop-row : goal.invariant-loop-row
invariant-loop-row l = map row_of l.copies.items ≡ map row_of (take l.row-index l.rows)
