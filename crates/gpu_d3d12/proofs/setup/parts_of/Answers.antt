use Rattle.std.proofs.Common.{rules}
use Rattle.gpu_d3d12.proofs.setup.parts_of.Goals as goal

pub returns-in-Err-clause-cause : goal.returns-in-Err-clause-cause
returns-in-Err-clause-cause g c = search rules
