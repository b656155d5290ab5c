use Rattle.std.proofs.Common.{rules}
use Rattle.gpu_c.proofs.heaps_handle.HeapsHandle.put.Goals as goal

pub returns : goal.returns
returns c = search rules
