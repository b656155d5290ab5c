use Rattle.std.proofs.Common.{arith}
use Rattle.std.proofs.lemmas.Grind.{common_steps}
use Rattle.gpu_report.specs.Escape.{quoted}
use Rattle.gpu_report.proofs.escape.write_quoted.Goals as goal

pub returns : goal.returns
unfolding quoted
returns g c = grind (arith, common_steps)
