use Rattle.std.proofs.Common.{arith}
use Rattle.std.proofs.lemmas.Grind.{common_steps}
use Rattle.gpu_report.specs.BlocksSvg.{totals_line}
use Rattle.gpu_report.proofs.blocks_svg.write_totals_line.Goals as goal

pub returns : goal.returns
unfolding totals_line
returns g c = grind (arith, common_steps)
