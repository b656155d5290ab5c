use Rattle.gpu_core.proofs.OneOutcome.{needed_once, installed_once}
use Rattle.gpu_core.proofs.type_laws.one_block_needed.Goals as goal

pub returns-clause-needs : goal.returns-clause-needs
returns-clause-needs g c = needed_once

pub returns-clause-installs : goal.returns-clause-installs
returns-clause-installs g c = installed_once
