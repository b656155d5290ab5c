use Rattle.std.proofs.Common.{rules}
use Rattle.gpu_c.proofs.metal_heaps_handle.MetalHeapsHandle.put.Goals as goal

pub returns : goal.returns
returns c = search rules
