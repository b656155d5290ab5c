use Rattle.std.proofs.Common.{rules}
use Rattle.gpu_d3d12.proofs.resource_answer.create_committed.Goals as goal

pub returns : goal.returns
returns g c = search rules
