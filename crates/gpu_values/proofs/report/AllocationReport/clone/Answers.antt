use Rattle.std.proofs.Common.{rules}
use Rattle.gpu_values.proofs.report.AllocationReport.clone.Goals as goal

pub returns-clause-same : goal.returns-clause-same
returns-clause-same c = search rules
