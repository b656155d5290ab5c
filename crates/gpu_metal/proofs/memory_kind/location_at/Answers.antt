use Rattle.std.proofs.Common.{rules}
use Rattle.gpu_metal.proofs.memory_kind.location_at.Goals as goal

pub returns-in-0 : goal.returns-in-0
returns-in-0 c = search rules
