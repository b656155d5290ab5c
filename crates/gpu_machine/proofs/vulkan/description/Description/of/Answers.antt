use Rattle.std.proofs.Common.{rules}
use Rattle.gpu_machine.proofs.vulkan.description.Description.of.Goals as goal

pub returns : goal.returns
returns c = search rules
