use Rattle.std.proofs.Common.{rules}
use Rattle.gpu_core.proofs.marks.Marks.reserve.Goals as goal

pub returns-clause-room : goal.returns-clause-room
returns-clause-room c = search rules
