use Rattle.std.proofs.Common.{rules}
use Rattle.gpu_d3d12.proofs.describe.request_of.Goals as goal

pub returns-clause-shared : goal.returns-clause-shared
returns-clause-shared c = search rules
