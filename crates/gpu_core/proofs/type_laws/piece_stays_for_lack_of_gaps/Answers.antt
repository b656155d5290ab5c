use Rattle.gpu_core.proofs.Moving.{stays_for_lack_of_gaps}
use Rattle.gpu_core.proofs.type_laws.piece_stays_for_lack_of_gaps.Goals as goal

pub returns : goal.returns
returns g c = stays_for_lack_of_gaps
