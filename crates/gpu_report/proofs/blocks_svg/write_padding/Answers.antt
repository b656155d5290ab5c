use Rattle.std.proofs.Common.{rules}
use Rattle.gpu_report.proofs.blocks_svg.write_padding.Goals as goal

pub returns : goal.returns
returns g c = search rules
