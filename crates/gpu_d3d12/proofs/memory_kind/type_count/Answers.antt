use Rattle.std.proofs.Common.{rules}
use Rattle.gpu_d3d12.proofs.memory_kind.type_count.Goals as goal

pub returns-in-Tier1 : goal.returns-in-Tier1
returns-in-Tier1 c = search rules
