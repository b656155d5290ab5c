use Rattle.std.proofs.Common.{rules}
use Rattle.gpu_report.proofs.report_svg.rows_in.Goals as goal

pub returns : goal.returns
returns c = search rules
