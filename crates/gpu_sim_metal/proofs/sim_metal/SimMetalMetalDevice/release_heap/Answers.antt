use Rattle.std.proofs.Common.{rules}
use Rattle.gpu_sim_metal.proofs.sim_metal.SimMetalMetalDevice.release_heap.Goals as goal

pub returns-clause-gives_back : goal.returns-clause-gives_back
returns-clause-gives_back c = search rules
