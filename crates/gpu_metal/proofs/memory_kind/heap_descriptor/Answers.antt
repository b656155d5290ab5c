use Rattle.std.proofs.Common.{rules}
use Rattle.gpu_metal.proofs.memory_kind.heap_descriptor.Goals as goal

pub returns-in-GpuToCpu : goal.returns-in-GpuToCpu
returns-in-GpuToCpu c = search rules
