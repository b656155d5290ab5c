use Rattle.std.proofs.Common.{rules}
use Rattle.gpu_report.specs.Svg.{bar_width}
use Rattle.gpu_report.proofs.place.bar_width.Goals as goal

pub returns-clause-width : goal.returns-clause-width
unfolding bar_width
returns-clause-width c = search rules
