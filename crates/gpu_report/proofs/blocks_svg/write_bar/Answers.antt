use Rattle.std.proofs.Common.{arith}
use Rattle.std.proofs.lemmas.Grind.{common_steps}
use Rattle.gpu_report.specs.BlocksSvg.{bar_svg}
use Rattle.gpu_report.proofs.blocks_svg.write_bar.Goals as goal

pub returns : goal.returns
unfolding bar_svg
returns g c = grind (arith, common_steps)
