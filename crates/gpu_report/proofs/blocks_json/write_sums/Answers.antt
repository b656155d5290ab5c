use Rattle.std.proofs.Common.{arith}
use Rattle.std.proofs.lemmas.Grind.{common_steps}
use Rattle.gpu_report.specs.BlocksJson.{sums_json}
use Rattle.gpu_report.proofs.blocks_json.write_sums.Goals as goal

pub returns : goal.returns
unfolding sums_json
returns g c = grind (arith, common_steps)
