use Rattle.gpu_device.proofs.Writes.{range_stays}
use Rattle.gpu_device.proofs.vulkan.laws.write_leaves_ranges.Goals as goal

pub returns : goal.returns
returns c = range_stays
