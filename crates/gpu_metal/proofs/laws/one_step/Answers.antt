use Rattle.gpu_metal.proofs.OneStep.{step_once}
use Rattle.gpu_metal.proofs.laws.one_step.Goals as goal

pub returns : goal.returns
returns c = step_once
