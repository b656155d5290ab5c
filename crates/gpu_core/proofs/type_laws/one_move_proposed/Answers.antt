use Rattle.gpu_core.proofs.Moving.{one_proposal, proposal_or_none}
use Rattle.gpu_core.proofs.type_laws.one_move_proposed.Goals as goal

pub returns-clause-once : goal.returns-clause-once
returns-clause-once g c = one_proposal

pub returns-clause-or_none : goal.returns-clause-or_none
returns-clause-or_none g c = proposal_or_none
