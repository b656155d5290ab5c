use Rattle.std.proofs.Common.{rules}
use Rattle.gpu_d3d12.proofs.resource_answer.refusal_of_resource.Goals as goal

pub returns-then-code-eq-DEVICE_REMOVED : goal.returns-then-code-eq-DEVICE_REMOVED
returns-then-code-eq-DEVICE_REMOVED g c = search rules
