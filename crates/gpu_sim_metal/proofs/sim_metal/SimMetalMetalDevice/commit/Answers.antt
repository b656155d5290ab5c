use Rattle.std.proofs.Common.{rules}
use Rattle.gpu_sim_metal.proofs.sim_metal.SimMetalMetalDevice.commit.Goals as goal

pub returns-clause-commits : goal.returns-clause-commits
returns-clause-commits c = search rules
