use Rattle.std.proofs.Common.{rules}
use Rattle.gpu_core.proofs.memory_type.MemoryType.fits_budget.Goals as goal

pub returns-then-self-budget : goal.returns-then-self-budget
returns-then-self-budget g c = search rules
