use Rattle.std.proofs.Common.{arith}
use Rattle.std.proofs.lemmas.Grind.{common_steps}
use Rattle.gpu_report.specs.BlocksJson.{block_json}
use Rattle.gpu_report.proofs.blocks_json.write_block.Goals as goal

pub returns : goal.returns
unfolding block_json
returns g c = grind (arith, common_steps)
