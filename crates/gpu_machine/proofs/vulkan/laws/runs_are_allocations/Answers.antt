use Rattle.gpu_machine.proofs.VulkanRunning.{allocates}
use Rattle.gpu_machine.proofs.vulkan.laws.runs_are_allocations.Goals as goal

pub returns : goal.returns
returns g c = λ n old new d device after told result over none shut free runs returned. allocates g.D.VulkanDevice d old over none shut free n new device after told result runs returned
