use Rattle.std.proofs.Common.{rules}
use Rattle.gpu_sim.proofs.sim_vulkan.SimVulkan.questions.Goals as goal

pub returns : goal.returns
returns c = search rules
