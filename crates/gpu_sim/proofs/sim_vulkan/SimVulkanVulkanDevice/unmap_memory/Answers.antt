use Rattle.std.proofs.Common.{rules}
use Rattle.gpu_sim.proofs.sim_vulkan.SimVulkanVulkanDevice.unmap_memory.Goals as goal

pub returns-clause-gives_back : goal.returns-clause-gives_back
returns-clause-gives_back c = search rules
