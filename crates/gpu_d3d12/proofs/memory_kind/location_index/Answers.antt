use Rattle.std.proofs.Common.{rules}
use Rattle.gpu_d3d12.proofs.memory_kind.location_index.Goals as goal

pub returns-in-Unknown : goal.returns-in-Unknown
returns-in-Unknown c = search rules
