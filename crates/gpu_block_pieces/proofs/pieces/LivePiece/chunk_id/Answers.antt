use Rattle.std.proofs.Common.{rules}
use Rattle.gpu_block_pieces.proofs.pieces.LivePiece.chunk_id.Goals as goal

pub returns : goal.returns
returns c = search rules
