use Rattle.std.proofs.Common.{rules}
use Rattle.gpu_core.proofs.memory_type.MemoryType.new.Goals as goal

pub returns-clause-kind : goal.returns-clause-kind
returns-clause-kind g c = search rules
