use Rattle.std.proofs.Common.{rules}
use Rattle.gpu_d3d12.proofs.question.desc1_of.Goals as goal

pub returns : goal.returns
returns c = search rules
