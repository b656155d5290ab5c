use Rattle.std.proofs.Common.{rules}
use Rattle.gpu_values.proofs.allocation_sizes.AllocationSizes.memblock_size.Goals as goal

pub returns-clause-size : goal.returns-clause-size
returns-clause-size c = search rules
