use Rattle.gpu_vulkan.proofs.OneStep.{step_once}
use Rattle.gpu_vulkan.proofs.laws.one_step.Goals as goal

pub returns : goal.returns
returns c = step_once
