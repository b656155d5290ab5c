use Rattle.gpu_device.proofs.Changes.{bytes-mapped, size-mapped}
use Rattle.gpu_device.proofs.vulkan.laws.mapping_gives_bytes.Goals as goal

pub returns : goal.returns
returns c = record { bytes = bytes-mapped; size = size-mapped }
