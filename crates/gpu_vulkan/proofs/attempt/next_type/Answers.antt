use Rattle.std.proofs.Common.{rules}
use Rattle.gpu_vulkan.proofs.attempt.next_type.Goals as goal

pub returns-in-CpuToGpu-default-clause-next : goal.returns-in-CpuToGpu-default-clause-next
returns-in-CpuToGpu-default-clause-next c = search rules
