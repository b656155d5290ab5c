use Rattle.std.proofs.Common.{rules}
use Rattle.gpu_metal.proofs.residency.commit_set.Goals as goal

pub returns-in-Some : goal.returns-in-Some
returns-in-Some g c = search rules
