use Rattle.gpu_device.proofs.Writes.{range_there}
use Rattle.gpu_device.proofs.vulkan.laws.write_is_read.Goals as goal

pub returns : goal.returns
returns c = range_there
