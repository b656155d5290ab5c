use Rattle.std.proofs.Common.{rules}
use Rattle.gpu_values.proofs.error.AllocationErrorDisplay.fmt.Goals as goal

pub returns-in-HostOutOfMemory-clause-writes : goal.returns-in-HostOutOfMemory-clause-writes
returns-in-HostOutOfMemory-clause-writes g c = search rules
