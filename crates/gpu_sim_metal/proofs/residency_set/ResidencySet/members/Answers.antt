use Rattle.std.proofs.Common.{rules}
use Rattle.gpu_sim_metal.proofs.residency_set.ResidencySet.members.Goals as goal

pub returns : goal.returns
returns c = search rules
