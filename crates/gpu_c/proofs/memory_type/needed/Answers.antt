use Rattle.std.proofs.Common.{rules}
use Rattle.gpu_c.proofs.memory_type.needed.Goals as goal

pub returns-clause-asks : goal.returns-clause-asks
returns-clause-asks c = search rules

pub returns-clause-size : goal.returns-clause-size
returns-clause-size c = search rules
