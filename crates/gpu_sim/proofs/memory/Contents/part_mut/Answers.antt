use Rattle.std.proofs.Common.{rules}
use Rattle.gpu_sim.proofs.memory.Contents.part_mut.Goals as goal

pub returns : goal.returns
returns c = search rules
