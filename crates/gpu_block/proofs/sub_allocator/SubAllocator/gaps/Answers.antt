use Rattle.std.proofs.Common.{rules}
use Rattle.gpu_block.proofs.sub_allocator.SubAllocator.gaps.Goals as goal

pub returns : goal.returns
returns c = search rules
