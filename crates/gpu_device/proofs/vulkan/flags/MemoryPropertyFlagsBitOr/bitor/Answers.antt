use Rattle.std.proofs.Common.{rules}
use Rattle.gpu_device.proofs.vulkan.flags.MemoryPropertyFlagsBitOr.bitor.Goals as goal

pub returns : goal.returns
returns c = search rules
