use Rattle.std.proofs.Common.{rules}
use Rattle.gpu_values.proofs.error.AllocationErrorFromTuple2AllocationError.from.Goals as goal

pub returns : goal.returns
returns g c = search rules
