use Rattle.std.proofs.Common.{rules}
use Rattle.gpu_core.proofs.memory_type.MemoryType.set_budget.Goals as goal

pub returns : goal.returns
returns g c = search rules
