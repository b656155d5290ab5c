use Rattle.std.proofs.Common.{rules}
use Rattle.gpu_c.proofs.allocator_handle.AllocatorHandle.put.Goals as goal

pub returns : goal.returns
returns c = search rules
