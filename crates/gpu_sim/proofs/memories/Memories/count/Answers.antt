use Rattle.gpu_sim.proofs.Slots.{count_held}
use Rattle.gpu_sim.proofs.memories.Memories.count.Goals as goal

pub returns : goal.returns
returns c = let e = count_held c.args.self.now.slots.items in cc
