use Rattle.std.proofs.Common.{rules}
use Rattle.gpu_block.proofs.sub_allocator.SubAllocator.leaks.Goals as goal

pub returns-in-FreeList : goal.returns-in-FreeList
returns-in-FreeList c = search rules
