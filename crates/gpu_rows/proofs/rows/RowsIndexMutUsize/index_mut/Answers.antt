use Rattle.std.proofs.Common.{rules}
use Rattle.gpu_rows.proofs.rows.RowsIndexMutUsize.index_mut.Goals as goal

pub at_mut-requires : goal.at_mut-requires
at_mut-requires g c = search rules

pub returns : goal.returns
returns g c = search rules
