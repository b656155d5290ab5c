use Rattle.std.proofs.Common.{rules}
use Rattle.gpu_block.proofs.sub_allocator.SubAllocator.longest_gap.Goals as goal

pub returns-in-FreeList-clause-longest : goal.returns-in-FreeList-clause-longest
returns-in-FreeList-clause-longest c = rw c.in-FreeList.is c.longest_gap.ensures.longest

pub returns-in-FreeList-clause-law : goal.returns-in-FreeList-clause-law
returns-in-FreeList-clause-law c = rw c.in-FreeList.is c.longest_gap.ensures.law

pub returns-in-Dedicated-clause-longest : goal.returns-in-Dedicated-clause-longest
returns-in-Dedicated-clause-longest c = search rules

pub returns-in-Dedicated-clause-law : goal.returns-in-Dedicated-clause-law
returns-in-Dedicated-clause-law c = search rules
