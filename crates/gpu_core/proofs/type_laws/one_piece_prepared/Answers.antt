use Rattle.gpu_core.proofs.OneOutcome.{prepared_once, serves_or_needs}
use Rattle.gpu_core.proofs.type_laws.one_piece_prepared.Goals as goal

pub returns-clause-once : goal.returns-clause-once
returns-clause-once g c = prepared_once

pub returns-clause-serves_or_needs : goal.returns-clause-serves_or_needs
returns-clause-serves_or_needs g c = serves_or_needs
