use Rattle.std.proofs.Common.{rules}
use Rattle.gpu_block.specs.Block.{IsSearchIn}
use Rattle.gpu_block.proofs.sub_allocator.SubAllocator.allocate.Goals as goal

pub allocate-requires-clause-aligned : goal.allocate-requires-clause-aligned
allocate-requires-clause-aligned c = search rules

pub returns-in-FreeList-clause-took : goal.returns-in-FreeList-clause-took
returns-in-FreeList-clause-took c = search rules

pub returns-in-FreeList-clause-cause : goal.returns-in-FreeList-clause-cause
returns-in-FreeList-clause-cause c = search rules

pub returns-in-FreeList-clause-law : goal.returns-in-FreeList-clause-law
returns-in-FreeList-clause-law c = search rules

pub returns-in-FreeList-clause-cost : goal.returns-in-FreeList-clause-cost
unfolding IsSearchIn
returns-in-FreeList-clause-cost c = search rules
