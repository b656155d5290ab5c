use Rattle.gpu_machine.proofs.VulkanBeginning.{slots_lent}
use Rattle.gpu_machine.proofs.vulkan.machine.Machine.memory_type.Goals as goal

pub returns : goal.returns
returns g c = slots_lent c.args.self.now.requests.slots c.memory_types.result.now c.args.index c.memory_type.result c.memory_types.ensures.slots c.memory_type.ensures
