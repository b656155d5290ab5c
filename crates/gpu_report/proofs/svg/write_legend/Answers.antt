use Rattle.std.proofs.Common.{arith}
use Rattle.std.proofs.lemmas.Grind.{common_steps}
use Rattle.gpu_report.specs.Svg.{legend_svg}
use Rattle.gpu_report.proofs.svg.write_legend.Goals as goal

pub returns : goal.returns
unfolding legend_svg
returns g c = grind (arith, common_steps)
