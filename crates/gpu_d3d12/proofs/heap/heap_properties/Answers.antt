use Rattle.std.proofs.Common.{rules}
use Rattle.gpu_d3d12.proofs.heap.heap_properties.Goals as goal

pub returns-in-GpuToCpu : goal.returns-in-GpuToCpu
returns-in-GpuToCpu c = search rules
