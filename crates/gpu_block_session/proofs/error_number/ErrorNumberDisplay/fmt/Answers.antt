use Rattle.std.proofs.Common.{rules}
use Rattle.gpu_block_session.proofs.error_number.ErrorNumberDisplay.fmt.Goals as goal

pub returns-clause-writes : goal.returns-clause-writes
returns-clause-writes g c = search rules
