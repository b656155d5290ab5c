use Rattle.std.proofs.Common.{rules}
use Rattle.gpu_core.proofs.memory_types.missing_type.Goals as goal

pub returns : goal.returns
returns c = search rules
