use Rattle.std.proofs.Common.{rules}
use Rattle.gpu_core.proofs.memory_types.MemoryTypes.report.Goals as goal

pub returns-clause-report : goal.returns-clause-report
returns-clause-report g c = search rules
