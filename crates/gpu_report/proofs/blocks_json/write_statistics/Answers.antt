use Rattle.std.proofs.Common.{arith}
use Rattle.std.proofs.lemmas.Grind.{common_steps}
use Rattle.gpu_report.specs.BlocksJson.{statistics_json}
use Rattle.gpu_report.proofs.blocks_json.write_statistics.Goals as goal

pub returns : goal.returns
unfolding statistics_json
returns g c = grind (arith, common_steps)
