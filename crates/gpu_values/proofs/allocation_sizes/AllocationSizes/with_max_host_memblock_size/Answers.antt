use Rattle.std.proofs.Common.{rules}
use Rattle.gpu_values.proofs.allocation_sizes.AllocationSizes.with_max_host_memblock_size.Goals as goal

pub invariant_of-result : goal.invariant_of-result
invariant_of-result c = search rules

pub returns : goal.returns
returns c = search rules
