use Rattle.std.proofs.Common.{rules}
use Rattle.gpu_block_pieces.proofs.rows.row_of.Goals as goal

pub returns : goal.returns
returns c = search rules
