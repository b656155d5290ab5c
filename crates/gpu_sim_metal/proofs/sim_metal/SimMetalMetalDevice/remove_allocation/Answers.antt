use Rattle.std.proofs.Common.{rules}
use Rattle.gpu_sim_metal.proofs.sim_metal.SimMetalMetalDevice.remove_allocation.Goals as goal

pub returns-clause-removes : goal.returns-clause-removes
returns-clause-removes c = search rules
