use Rattle.std.proofs.Common.{rules}
use Rattle.gpu_c.proofs.virtual_block.VirtualBlock.clear.Goals as goal

pub new-requires : goal.new-requires
new-requires c = search rules

pub returns-in-Ok-clause-emptied : goal.returns-in-Ok-clause-emptied
returns-in-Ok-clause-emptied c = search rules
