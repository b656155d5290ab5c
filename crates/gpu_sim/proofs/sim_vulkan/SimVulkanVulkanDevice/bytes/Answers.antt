use Rattle.std.proofs.Common.{rules}
use Rattle.gpu_sim.proofs.sim_vulkan.SimVulkanVulkanDevice.bytes.Goals as goal

pub returns : goal.returns
returns c = search rules
