use Rattle.std.proofs.Common.{rules}
use Rattle.gpu_sim.proofs.sim_vulkan.SimVulkanVulkanDevice.map_memory.Goals as goal

pub map-requires : goal.map-requires
map-requires c = search rules
