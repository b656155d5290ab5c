use Rattle.std.proofs.Common.{rules}
use Rattle.gpu_block.proofs.dedicated_block.DedicatedBlockAllocator.longest_gap.Goals as goal

pub returns-in-Some-clause-longest : goal.returns-in-Some-clause-longest
returns-in-Some-clause-longest c = search rules
