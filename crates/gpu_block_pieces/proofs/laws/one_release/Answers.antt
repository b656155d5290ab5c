use Rattle.gpu_block_pieces.proofs.OneOutcome.{releases_once}
use Rattle.gpu_block_pieces.proofs.laws.one_release.Goals as goal

pub returns : goal.returns
returns c = λ old n new next sound t u. releases_once old n new next sound t u
