use Rattle.std.proofs.Common.{rules}
use Rattle.gpu_block.proofs.dedicated_block.first.Goals as goal

pub returns-in-Some-clause-is : goal.returns-in-Some-clause-is
returns-in-Some-clause-is c = search rules
