use Rattle.std.proofs.Common.{rules}
use Rattle.gpu_block.proofs.sub_allocator.SubAllocator.report_allocations.Goals as goal

pub returns-in-Dedicated-clause-rows : goal.returns-in-Dedicated-clause-rows
returns-in-Dedicated-clause-rows c = search rules
