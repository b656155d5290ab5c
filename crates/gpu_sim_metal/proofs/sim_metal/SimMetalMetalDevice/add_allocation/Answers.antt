use Rattle.std.proofs.Common.{rules}
use Rattle.gpu_sim_metal.proofs.sim_metal.SimMetalMetalDevice.add_allocation.Goals as goal

pub returns-clause-adds : goal.returns-clause-adds
returns-clause-adds c = search rules
