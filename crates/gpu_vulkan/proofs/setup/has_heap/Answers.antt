use Rattle.std.proofs.Common.{rules}
use Rattle.gpu_vulkan.proofs.setup.has_heap.Goals as goal

pub returns : goal.returns
returns g c = search rules
