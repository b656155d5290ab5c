use Rattle.gpu_vulkan.proofs.Untouched.{allocate_leaves, free_leaves}
use Rattle.gpu_vulkan.proofs.laws.memory_is_left.Goals as goal

pub returns-clause-allocate : goal.returns-clause-allocate
returns-clause-allocate g c = allocate_leaves g.D.VulkanDevice

pub returns-clause-free : goal.returns-clause-free
returns-clause-free g c = free_leaves g.D.VulkanDevice
