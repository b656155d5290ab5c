use Rattle.std.proofs.Common.{rules}
use Rattle.gpu_sim.proofs.sim_vulkan.SimVulkanVulkanDevice.range_mut.Goals as goal

pub returns : goal.returns
returns c = search rules
