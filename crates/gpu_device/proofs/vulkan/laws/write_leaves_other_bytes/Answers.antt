use Rattle.gpu_device.proofs.Writes.{range_elsewhere}
use Rattle.gpu_device.proofs.vulkan.laws.write_leaves_other_bytes.Goals as goal

pub returns : goal.returns
returns c = range_elsewhere
