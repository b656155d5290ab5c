use Rattle.std.proofs.Common.{rules}
use Rattle.gpu_report.specs.BlocksJson.{place_json}
use Rattle.gpu_report.proofs.blocks_json.write_place.Goals as goal

pub returns : goal.returns
unfolding place_json
returns g c = search rules
