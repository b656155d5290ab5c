use Rattle.gpu_machine.proofs.VulkanBeginning.{renamed, not_renamed}
use Rattle.gpu_machine.proofs.vulkan.laws.renames_are_renames.Goals as goal

pub returns-clause-renamed : goal.returns-clause-renamed
returns-clause-renamed c = λ old new a b p name closed is. renamed old new a p name closed is b

pub returns-clause-refused : goal.returns-clause-refused
returns-clause-refused c = λ old new a p name e f closed is. not_renamed old new a p name closed is e f
