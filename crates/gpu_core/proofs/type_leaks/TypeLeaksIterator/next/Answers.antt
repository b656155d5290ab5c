use Rattle.std.proofs.Common.{rules}
use Rattle.gpu_core.proofs.type_leaks.TypeLeaksIterator.next.Goals as goal

pub returns-clause-steps : goal.returns-clause-steps
returns-clause-steps g c = search rules
