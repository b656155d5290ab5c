use Rattle.std.proofs.Common.{rules}
use Rattle.gpu_device.proofs.vulkan.flags.MemoryPropertyFlags.contains.Goals as goal

pub returns : goal.returns
returns c = search rules
