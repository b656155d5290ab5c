use Rattle.std.proofs.Common.{rules}
use Rattle.gpu_block.proofs.dedicated_block.DedicatedBlockAllocator.set_word.Goals as goal

pub returns-clause-set : goal.returns-clause-set
returns-clause-set c = search rules
