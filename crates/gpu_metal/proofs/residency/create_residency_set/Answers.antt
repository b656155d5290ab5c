use Rattle.std.proofs.Common.{rules}
use Rattle.gpu_metal.proofs.residency.create_residency_set.Goals as goal

pub returns-then-not-wanted : goal.returns-then-not-wanted
returns-then-not-wanted g c = search rules

pub returns-in-Err : goal.returns-in-Err
returns-in-Err g c = search rules
