use Rattle.std.proofs.Common.{rules}
use Rattle.gpu_values.proofs.report.largest.Goals as goal

pub loop-row-preserved : goal.loop-row-preserved
loop-row-preserved c = search rules
