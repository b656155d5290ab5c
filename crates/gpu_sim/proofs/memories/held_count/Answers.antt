use Rattle.std.proofs.Common.{rules}
use Rattle.gpu_sim.proofs.memories.held_count.Goals as goal

pub returns : goal.returns
returns c = search rules
