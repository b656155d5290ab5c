use Rattle.std.proofs.Common.{rules}
use Rattle.gpu_block.proofs.sub_allocator.SubAllocator.free.Goals as goal

pub returns-in-Dedicated-clause-freed : goal.returns-in-Dedicated-clause-freed
returns-in-Dedicated-clause-freed c = search rules

pub returns-in-Dedicated-clause-cause : goal.returns-in-Dedicated-clause-cause
returns-in-Dedicated-clause-cause c = search rules
