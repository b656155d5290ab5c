use Rattle.std.proofs.Common.{rules}
use Rattle.gpu_values.proofs.report.MemoryBlockReport.clone.Goals as goal

pub returns : goal.returns
returns c = search rules
