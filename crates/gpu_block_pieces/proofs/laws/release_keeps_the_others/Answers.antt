use Rattle.gpu_block_pieces.proofs.Live.{releases_keeps}
use Rattle.gpu_block_pieces.proofs.laws.release_keeps_the_others.Goals as goal

pub returns : goal.returns
returns c = λ old n new sound t. releases_keeps old n new sound t
