use Rattle.std.proofs.Common.{arith}
use Rattle.std.proofs.lemmas.Grind.{common_steps}
use Rattle.gpu_core.proofs.type_leaks.next_from.Goals as goal

pub returns-in-Some-next : goal.returns-in-Some-next
returns-in-Some-next g c = grind (arith, common_steps)
