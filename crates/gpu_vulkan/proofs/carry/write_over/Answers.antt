use Rattle.std.proofs.Common.{rules}
use Rattle.gpu_vulkan.proofs.carry.write_over.Goals as goal

pub returns : goal.returns
returns g c = search rules
