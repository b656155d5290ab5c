use Rattle.std.proofs.Common.{rules}
use Rattle.gpu_core.proofs.slot.settle.Goals as goal

pub returns-clause-settled : goal.returns-clause-settled
returns-clause-settled g c = search rules
