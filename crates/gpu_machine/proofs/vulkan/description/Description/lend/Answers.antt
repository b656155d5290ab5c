use Rattle.std.proofs.Common.{rules}
use Rattle.gpu_machine.proofs.vulkan.description.Description.lend.Goals as goal

pub returns : goal.returns
returns c = search rules
