use Rattle.gpu_block_pieces.proofs.Empty.{empty_has_place}
use Rattle.gpu_block_pieces.proofs.laws.empty_block_has_place.Goals as goal

pub returns : goal.returns
returns c = λ b r h pos le n. empty_has_place b r h pos le n
