use Rattle.std.proofs.Common.{rules}
use Rattle.gpu_device.proofs.vulkan.flags.MemoryPropertyFlagsFlags.from_bits_retain.Goals as goal

pub returns : goal.returns
returns c = search rules
