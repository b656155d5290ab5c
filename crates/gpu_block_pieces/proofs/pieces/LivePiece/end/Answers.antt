use Rattle.std.proofs.Common.{rules}
use Rattle.gpu_block_pieces.proofs.pieces.LivePiece.end.Goals as goal

pub overflow_add-result : goal.overflow_add-result
overflow_add-result c = search rules

pub returns : goal.returns
returns c = search rules
