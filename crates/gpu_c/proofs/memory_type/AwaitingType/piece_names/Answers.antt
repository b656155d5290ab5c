use Rattle.std.proofs.Common.{rules}
use Rattle.gpu_c.proofs.FillingNames.{names_none}
use Rattle.gpu_c.proofs.memory_type.AwaitingType.piece_names.Goals as goal

pub returns-in-None : goal.returns-in-None
returns-in-None c = search (rules, names_none)
