use Rattle.std.proofs.Common.{arith}
use Rattle.std.proofs.lemmas.Grind.{common_steps}
use Rattle.gpu_core.proofs.memory_type.MemoryType.statistics.Goals as goal

pub returns-in_default : goal.returns-in_default
returns-in_default g c = grind (arith, common_steps)
