use Rattle.std.proofs.Common.{rules}
use Rattle.gpu_metal.proofs.memory_kind.heap_label.Goals as goal

pub returns-in-CpuToGpu : goal.returns-in-CpuToGpu
returns-in-CpuToGpu c = search rules
