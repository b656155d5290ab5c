use Rattle.std.proofs.Common.{rules}
use Rattle.gpu_block.proofs.sub_allocator.SubAllocator.statistics.Goals as goal

pub count_pieces-requires : goal.count_pieces-requires
count_pieces-requires c = search rules

pub returns : goal.returns
returns c = search rules
