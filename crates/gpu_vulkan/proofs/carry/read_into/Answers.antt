use Rattle.std.proofs.Common.{rules}
use Rattle.gpu_vulkan.proofs.carry.read_into.Goals as goal

pub returns-in-Some-clause-read : goal.returns-in-Some-clause-read
returns-in-Some-clause-read g c = search rules

pub returns-in-Some-clause-len : goal.returns-in-Some-clause-len
returns-in-Some-clause-len g c = search rules
