use Rattle.std.proofs.Common.{rules}
use Rattle.gpu_block.proofs.dedicated_block.DedicatedBlockAllocator.free.Goals as goal

pub returns-clause-freed : goal.returns-clause-freed
returns-clause-freed c = search rules
