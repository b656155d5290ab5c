use Rattle.std.proofs.Common.{arith}
use Rattle.std.proofs.lemmas.Grind.{common_steps}
use Rattle.gpu_report.specs.BlocksSvg.{pieces_note}
use Rattle.gpu_report.proofs.blocks_svg.write_pieces_note.Goals as goal

pub returns : goal.returns
unfolding pieces_note
returns g c = grind (arith, common_steps)
