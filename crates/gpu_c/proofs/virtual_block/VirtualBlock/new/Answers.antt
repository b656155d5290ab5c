use Rattle.std.proofs.Common.{rules}
use Rattle.gpu_c.proofs.virtual_block.VirtualBlock.new.Goals as goal

pub new-requires-clause-paged : goal.new-requires-clause-paged
new-requires-clause-paged c = search rules

pub invariant_of-result : goal.invariant_of-result
invariant_of-result c = search rules

pub returns-in-Ok-clause-fresh : goal.returns-in-Ok-clause-fresh
returns-in-Ok-clause-fresh c = search rules
