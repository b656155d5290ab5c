use Rattle.std.proofs.Common.{rules}
use Rattle.gpu_block_pieces.proofs.free_list.FreeListAllocator.is_empty.Goals as goal

pub returns : goal.returns
returns c = search rules
