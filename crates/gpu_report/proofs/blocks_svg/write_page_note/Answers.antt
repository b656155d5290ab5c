use Rattle.std.proofs.Common.{arith}
use Rattle.std.proofs.lemmas.Grind.{common_steps}
use Rattle.gpu_report.proofs.blocks_svg.write_page_note.Goals as goal

pub returns : goal.returns
returns g c = grind (arith, common_steps)
