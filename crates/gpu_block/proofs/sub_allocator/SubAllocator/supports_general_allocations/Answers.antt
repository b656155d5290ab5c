use Rattle.std.proofs.Common.{rules}
use Rattle.gpu_block.proofs.sub_allocator.SubAllocator.supports_general_allocations.Goals as goal

pub returns-in-Dedicated : goal.returns-in-Dedicated
returns-in-Dedicated c = search rules
