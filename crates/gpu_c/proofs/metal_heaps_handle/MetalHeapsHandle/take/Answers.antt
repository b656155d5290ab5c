use Rattle.std.proofs.Common.{rules}
use Rattle.gpu_c.proofs.metal_heaps_handle.MetalHeapsHandle.take.Goals as goal

pub returns-in-Some-clause-value : goal.returns-in-Some-clause-value
returns-in-Some-clause-value c = search rules
