use Rattle.std.proofs.Common.{rules}
use Rattle.gpu_block.proofs.sub_allocator.SubAllocator.rename_allocation.Goals as goal

pub returns-in-FreeList-clause-renamed : goal.returns-in-FreeList-clause-renamed
returns-in-FreeList-clause-renamed c = search rules
