use Rattle.std.proofs.Common.{rules}
use Rattle.gpu_c.proofs.memory_type_handle.MemoryTypeHandle.take.Goals as goal

pub returns-in-Some-clause-value : goal.returns-in-Some-clause-value
returns-in-Some-clause-value c = search rules
