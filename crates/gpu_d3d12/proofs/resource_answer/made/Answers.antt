use Rattle.std.proofs.Common.{rules}
use Rattle.gpu_d3d12.proofs.resource_answer.made.Goals as goal

pub returns-in-Ok-None : goal.returns-in-Ok-None
returns-in-Ok-None g c = search rules
