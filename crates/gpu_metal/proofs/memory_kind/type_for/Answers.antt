use Rattle.std.proofs.Common.{rules}
use Rattle.gpu_metal.proofs.memory_kind.type_for.Goals as goal

pub returns-in-Unknown-clause-first : goal.returns-in-Unknown-clause-first
returns-in-Unknown-clause-first c = search rules
