use Rattle.std.proofs.Common.{rules}
use Rattle.gpu_d3d12.proofs.resource.Resource.memory_location.Goals as goal

pub returns : goal.returns
returns c = search rules
