use Rattle.std.proofs.Common.{rules}
use Rattle.gpu_core.proofs.memory_types.within_limits.Goals as goal

pub returns-in_err-check_block-clause-cause : goal.returns-in_err-check_block-clause-cause
returns-in_err-check_block-clause-cause g c = search rules

pub returns-clause-fits : goal.returns-clause-fits
returns-clause-fits g c = search rules
