use Rattle.std.proofs.Common.{rules}
use Rattle.gpu_vulkan.proofs.allocation.Allocation.chunk_id.Goals as goal

pub returns : goal.returns
returns c = search rules
