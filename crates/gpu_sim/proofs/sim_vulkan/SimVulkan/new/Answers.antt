use Rattle.std.proofs.Common.{ap, ◌∙◌, rules}
use Rattle.gpu_device.specs.VulkanHistory.{refused_in, latest_in}
use Rattle.gpu_sim.proofs.Scripts.{no_refusal, not_asked}
use Rattle.gpu_sim.proofs.sim_vulkan.SimVulkan.new.Goals as goal

pub returns-clause-plan : goal.returns-clause-plan
returns-clause-plan c = search rules

pub returns-clause-refused : goal.returns-clause-refused
returns-clause-refused c = ap refused_in c.new-2.ensures.history ∙ no_refusal c.args.refusals.items

pub returns-clause-latest : goal.returns-clause-latest
returns-clause-latest c = ap latest_in c.new-2.ensures.history ∙ not_asked c.args.refusals.items
