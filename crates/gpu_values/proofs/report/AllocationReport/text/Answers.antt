use Rattle.std.proofs.Common.{rules}
use Rattle.gpu_values.proofs.report.AllocationReport.text.Goals as goal

pub returns-clause-text : goal.returns-clause-text
returns-clause-text c = search rules
