use Rattle.std.proofs.Common.{rules}
use Rattle.gpu_d3d12.proofs.describe.AllocationCreateDesc.from_d3d12_resource_desc.Goals as goal

pub returns-clause-category : goal.returns-clause-category
returns-clause-category g c = search rules
