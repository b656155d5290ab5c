use Rattle.std.proofs.Common.{arith}
use Rattle.std.proofs.lemmas.Grind.{common_steps}
use Rattle.gpu_core.proofs.Reporting.{reporting}
use Rattle.gpu_core.proofs.memory_types.report.report_of.Goals as goal

pub returns-clause-report : goal.returns-clause-report
returns-clause-report g c = grind (arith, common_steps, reporting)

pub loop-memory_type-preserved : goal.loop-memory_type-preserved
loop-memory_type-preserved g c = grind (arith, common_steps, reporting)
