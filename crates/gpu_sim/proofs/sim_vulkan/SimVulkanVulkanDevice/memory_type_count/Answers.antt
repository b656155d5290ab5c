use Rattle.std.proofs.Common.{rules}
use Rattle.gpu_sim.proofs.sim_vulkan.SimVulkanVulkanDevice.memory_type_count.Goals as goal

pub returns : goal.returns
returns c = search rules
