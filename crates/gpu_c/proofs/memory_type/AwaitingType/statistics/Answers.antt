use Rattle.std.proofs.Common.{rules}
use Rattle.gpu_c.proofs.memory_type.AwaitingType.statistics.Goals as goal

pub returns : goal.returns
returns c = search rules
