use Rattle.std.proofs.Common.{rules}
use Rattle.gpu_c.proofs.memory_type.AwaitingType.piece_name.Goals as goal

pub returns-in-Some : goal.returns-in-Some
returns-in-Some c = search rules
