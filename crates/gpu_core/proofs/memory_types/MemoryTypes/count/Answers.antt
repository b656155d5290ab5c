use Rattle.std.proofs.Common.{rules}
use Rattle.gpu_core.proofs.memory_types.MemoryTypes.count.Goals as goal

pub returns : goal.returns
returns g c = search rules
