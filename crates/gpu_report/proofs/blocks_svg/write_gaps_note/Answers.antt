use Rattle.std.proofs.Common.{arith}
use Rattle.std.proofs.lemmas.Grind.{common_steps}
use Rattle.gpu_report.specs.BlocksSvg.{gaps_note}
use Rattle.gpu_report.proofs.blocks_svg.write_gaps_note.Goals as goal

pub returns : goal.returns
unfolding gaps_note
returns g c = grind (arith, common_steps)
