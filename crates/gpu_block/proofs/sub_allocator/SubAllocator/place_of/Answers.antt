use Rattle.gpu_block.proofs.sub_allocator.SubAllocator.place_of.Goals as goal

pub returns-in-FreeList : goal.returns-in-FreeList
returns-in-FreeList c = rw c.in-FreeList.is c.place_of.ensures

pub returns-in-Dedicated : goal.returns-in-Dedicated
returns-in-Dedicated c = rw c.in-Dedicated.is c.place_of-in-Dedicated.ensures
