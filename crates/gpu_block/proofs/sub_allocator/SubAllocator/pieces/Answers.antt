use Rattle.std.proofs.Common.{rules}
use Rattle.gpu_block.proofs.sub_allocator.SubAllocator.pieces.Goals as goal

pub returns-in-Dedicated-clause-pieces : goal.returns-in-Dedicated-clause-pieces
returns-in-Dedicated-clause-pieces c = search rules
