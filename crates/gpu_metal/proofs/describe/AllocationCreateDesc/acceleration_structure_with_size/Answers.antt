use Rattle.std.proofs.Common.{rules}
use Rattle.gpu_metal.proofs.describe.AllocationCreateDesc.acceleration_structure_with_size.Goals as goal

pub returns-clause-location : goal.returns-clause-location
returns-clause-location g c = search rules
