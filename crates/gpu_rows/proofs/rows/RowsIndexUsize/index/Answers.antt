use Rattle.std.proofs.Common.{rules}
use Rattle.gpu_rows.proofs.rows.RowsIndexUsize.index.Goals as goal

pub at-requires : goal.at-requires
at-requires g c = search rules

pub returns : goal.returns
returns g c = search rules
