use Rattle.std.proofs.Common.{rules}
use Rattle.gpu_block_pieces.proofs.free_list.FreeListAllocator.new.Goals as goal

pub returns-clause-fresh : goal.returns-clause-fresh
returns-clause-fresh c = search rules
