use Rattle.std.proofs.Common.{rules}
use Rattle.gpu_block.proofs.sub_allocator.SubAllocator.set_word.Goals as goal

pub returns-in-FreeList-clause-set : goal.returns-in-FreeList-clause-set
returns-in-FreeList-clause-set c = search rules
