use Rattle.gpu_block_pieces.proofs.Covering.{sound_covered}
use Rattle.gpu_block_pieces.proofs.laws.extents_and_gaps_cover.Goals as goal

pub returns : goal.returns
returns c = sound_covered
