use Rattle.std.proofs.Common.{rules}
use Rattle.gpu_vulkan.proofs.choice.preferred_flags.Goals as goal

pub returns-in-GpuToCpu : goal.returns-in-GpuToCpu
returns-in-GpuToCpu c = search rules
