use Rattle.std.proofs.Common.{Some, refl, rules}
use Rattle.gpu_vulkan.proofs.block.map_new.Goals as goal

pub returns-in-Err-clause-cause : goal.returns-in-Err-clause-cause
returns-in-Err-clause-cause g c = (Some _, refl, search rules)

pub returns-in-Err-clause-gives_back : goal.returns-in-Err-clause-gives_back
returns-in-Err-clause-gives_back g c = search rules

pub returns-in-Ok-false-clause-gives_back : goal.returns-in-Ok-false-clause-gives_back
returns-in-Ok-false-clause-gives_back g c = search rules
