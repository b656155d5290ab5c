use Rattle.std.specs.List.{AllWithin}
use Rattle.gpu_values.specs.Report.{row_of}
use Rattle.gpu_report.specs.Fits.{RowFits}
use Rattle.gpu_report.proofs.fits.rows_fit.Given as goal

abbrev pub invariant-loop-row : goal.invariant-loop-row
invariant-loop-row l = AllWithin (λ a. RowFits (row_of a)) l.rows 0 l.row-index
