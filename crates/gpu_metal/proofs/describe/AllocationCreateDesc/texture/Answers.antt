use Rattle.std.proofs.Common.{rules}
use Rattle.gpu_metal.proofs.describe.AllocationCreateDesc.texture.Goals as goal

pub returns-in-Ok-clause-location : goal.returns-in-Ok-clause-location
returns-in-Ok-clause-location g c = search rules
