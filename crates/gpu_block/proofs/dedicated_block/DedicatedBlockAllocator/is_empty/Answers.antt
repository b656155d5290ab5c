use Rattle.std.proofs.Common.{rules}
use Rattle.gpu_block.proofs.dedicated_block.DedicatedBlockAllocator.is_empty.Goals as goal

pub returns : goal.returns
returns c = search rules
