use Rattle.gpu_machine.proofs.VulkanQuestions.{asks_few}
use Rattle.gpu_machine.proofs.vulkan.laws.few_questions_suffice.Goals as goal

pub returns : goal.returns
returns g c = λ n old new d device after told. asks_few g.D.VulkanDevice n old new d device after told
