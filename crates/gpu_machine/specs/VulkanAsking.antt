-- What is kept of a request while its block is awaited.
use Rattle.gpu_machine.specs.VulkanDescription.{description_of}
use Rattle.gpu_machine.specs.declared.vulkan.asking.Asking.{Asking}
use Rattle.gpu_machine.specs.declared.vulkan.asking.Rest.{Rest}

abbrev pub asking_for : Rest → Asking
asking_for r = record { description = description_of r.desc.now; is_second = r.is_second; preference = r.preference; portion = r.portion }
