use Rattle.std.proofs.Common.{rules}
use Rattle.gpu_sim_metal.proofs.sim_metal.SimMetalMetalDevice.new_heap.Goals as goal

pub returns-clause-names_heap : goal.returns-clause-names_heap
returns-clause-names_heap c = search rules
