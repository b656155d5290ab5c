use Rattle.std.proofs.Common.{rules}
use Rattle.gpu_block.proofs.sub_allocator.SubAllocator.allocated.Goals as goal

pub returns-in-Dedicated-clause-sum : goal.returns-in-Dedicated-clause-sum
returns-in-Dedicated-clause-sum c = search rules
