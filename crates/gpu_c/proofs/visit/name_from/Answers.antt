use Rattle.std.proofs.Common.{rules}
use Rattle.gpu_c.proofs.visit.name_from.Goals as goal

pub returns-then-from-offset-clause-whole : goal.returns-then-from-offset-clause-whole
returns-then-from-offset-clause-whole c = search rules

pub returns-then-from-offset-clause-copied : goal.returns-then-from-offset-clause-copied
returns-then-from-offset-clause-copied c = search rules
