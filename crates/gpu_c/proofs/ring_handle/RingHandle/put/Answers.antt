use Rattle.std.proofs.Common.{rules}
use Rattle.gpu_c.proofs.ring_handle.RingHandle.put.Goals as goal

pub returns : goal.returns
returns c = search rules
