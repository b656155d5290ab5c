use Rattle.std.proofs.Common.{rules}
use Rattle.gpu_core.proofs.memory_types.check_block.Goals as goal

pub returns-then-not-fits_budget : goal.returns-then-not-fits_budget
returns-then-not-fits_budget g c = search rules
