use Rattle.std.proofs.Common.{rules}
use Rattle.gpu_core.proofs.type_leaks.TypeLeaks.new.Goals as goal

pub returns : goal.returns
returns g c = search rules
