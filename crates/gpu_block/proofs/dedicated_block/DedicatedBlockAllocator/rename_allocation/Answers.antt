use Rattle.std.proofs.Common.{rules}
use Rattle.gpu_block.proofs.dedicated_block.DedicatedBlockAllocator.rename_allocation.Goals as goal

pub returns-clause-renamed : goal.returns-clause-renamed
returns-clause-renamed c = search rules
