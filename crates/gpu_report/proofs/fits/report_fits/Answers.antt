use Rattle.std.proofs.Common.{rules, subst}
use Rattle.std.specs.List.{All}
use Rattle.std.proofs.lemmas.List.Elements.{All-map}
use Rattle.gpu_values.specs.Report.{row_of}
use Rattle.gpu_report.specs.Fits.{RowFits, BlockRowFits}
use Rattle.gpu_report.proofs.fits.report_fits.Goals as goal

pub returns : goal.returns
returns c = record {
  rows = All-map RowFits row_of c.args.report.now.allocations.items (subst (All (λ a. RowFits (row_of a))) c.deref.ensures.value c.rows_fit.ensures);
  blocks = subst (All BlockRowFits) c.deref-2.ensures.value c.block_rows_fit.ensures;
  allocated = search rules;
  capacity = search rules;
}
