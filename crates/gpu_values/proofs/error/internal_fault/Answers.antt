use Rattle.std.proofs.Common.{rules}
use Rattle.gpu_values.proofs.error.internal_fault.Goals as goal

pub returns : goal.returns
returns c = search rules
