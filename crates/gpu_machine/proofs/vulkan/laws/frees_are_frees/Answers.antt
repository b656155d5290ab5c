use Rattle.gpu_machine.proofs.VulkanBeginning.{freed, not_freed}
use Rattle.gpu_machine.proofs.vulkan.laws.frees_are_frees.Goals as goal

pub returns-clause-freed : goal.returns-clause-freed
returns-clause-freed g c = λ old new a p back device after closed is. freed g.D.VulkanDevice old new a p closed is back device after

pub returns-clause-refused : goal.returns-clause-refused
returns-clause-refused g c = λ old new a p e f device closed is. not_freed g.D.VulkanDevice old new a p closed is e f device
