use Rattle.std.proofs.Common.{rules}
use Rattle.gpu_core.proofs.memory_type.MemoryType.report.Goals as goal

pub add_slots-requires-clause-allocated : goal.add_slots-requires-clause-allocated
add_slots-requires-clause-allocated g c = search rules

pub add_slots-requires-clause-capacity : goal.add_slots-requires-clause-capacity
add_slots-requires-clause-capacity g c = search rules

pub returns-clause-added : goal.returns-clause-added
returns-clause-added g c = search rules
