use Rattle.std.proofs.Common.{rules}
use Rattle.gpu_sim_metal.proofs.sim_metal.code_for_set.Goals as goal

pub returns-in-Some-Null : goal.returns-in-Some-Null
returns-in-Some-Null c = search rules

pub returns-in-Some-Null-2 : goal.returns-in-Some-Null-2
returns-in-Some-Null-2 c = search rules
