use Rattle.std.proofs.Common.{rules}
use Rattle.gpu_values.proofs.bytes.unit.Goals as goal

pub returns-in-5 : goal.returns-in-5
returns-in-5 c = search rules
