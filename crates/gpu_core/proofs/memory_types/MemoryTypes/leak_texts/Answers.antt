use Rattle.std.proofs.Common.{rules}
use Rattle.gpu_core.proofs.memory_types.MemoryTypes.leak_texts.Goals as goal

pub returns-clause-texts : goal.returns-clause-texts
returns-clause-texts g c = search rules
