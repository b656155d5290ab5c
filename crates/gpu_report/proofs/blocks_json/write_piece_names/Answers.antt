use Rattle.std.proofs.Common.{arith}
use Rattle.std.proofs.lemmas.Grind.{common_steps}
use Rattle.gpu_report.specs.BlocksJson.{piece_names_json}
use Rattle.gpu_report.proofs.blocks_json.write_piece_names.Goals as goal

pub returns : goal.returns
unfolding piece_names_json
returns g c = grind (arith, common_steps)
