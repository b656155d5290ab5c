use Rattle.gpu_d3d12.proofs.OneStep.{step_once}
use Rattle.gpu_d3d12.proofs.laws.one_step.Goals as goal

pub returns : goal.returns
returns c = step_once
