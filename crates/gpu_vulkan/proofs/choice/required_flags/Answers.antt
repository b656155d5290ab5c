use Rattle.std.proofs.Common.{rules}
use Rattle.gpu_vulkan.proofs.choice.required_flags.Goals as goal

pub returns-in-CpuToGpu : goal.returns-in-CpuToGpu
returns-in-CpuToGpu c = search rules
