use Rattle.gpu_block_pieces.proofs.OneOutcome.{takes_or_none}
use Rattle.gpu_block_pieces.proofs.laws.allocates_or_refuses.Goals as goal

pub returns : goal.returns
returns c = λ old r o n new t h. takes_or_none old r o n new t h
