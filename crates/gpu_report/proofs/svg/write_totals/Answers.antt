use Rattle.std.proofs.Common.{arith}
use Rattle.std.proofs.lemmas.Grind.{common_steps}
use Rattle.gpu_report.specs.Svg.{totals_svg}
use Rattle.gpu_report.proofs.svg.write_totals.Goals as goal

pub returns : goal.returns
unfolding totals_svg
returns g c = grind (arith, common_steps)
