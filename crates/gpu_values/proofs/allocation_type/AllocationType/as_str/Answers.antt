use Rattle.std.proofs.Common.{rules}
use Rattle.gpu_values.proofs.allocation_type.AllocationType.as_str.Goals as goal

pub returns-in-NonLinear : goal.returns-in-NonLinear
returns-in-NonLinear c = search rules
