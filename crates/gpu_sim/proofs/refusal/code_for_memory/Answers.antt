use Rattle.std.proofs.Common.{rules}
use Rattle.gpu_sim.proofs.refusal.code_for_memory.Goals as goal

pub returns-in-None : goal.returns-in-None
returns-in-None c = search rules
