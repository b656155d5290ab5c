use Rattle.std.proofs.Common.{rules}
use Rattle.gpu_d3d12.proofs.question.allocation_info_of.Goals as goal

pub returns-in-Device12 : goal.returns-in-Device12
returns-in-Device12 g c = search rules
