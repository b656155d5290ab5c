use Rattle.std.proofs.Common.{rules}
use Rattle.gpu_values.proofs.allocation_sizes.AllocationSizes.new.Goals as goal

pub returns : goal.returns
returns c = search rules
