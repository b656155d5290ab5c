use Rattle.std.proofs.Common.{rules}
use Rattle.gpu_vulkan.proofs.allocation.Allocation.memory_properties.Goals as goal

pub returns : goal.returns
returns c = search rules
