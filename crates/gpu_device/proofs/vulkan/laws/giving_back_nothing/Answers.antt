use Rattle.gpu_device.proofs.Maps.{remove_none}
use Rattle.gpu_device.proofs.Changes.{unmapped_none}
use Rattle.gpu_device.proofs.vulkan.laws.giving_back_nothing.Goals as goal

pub returns : goal.returns
returns c = record { removed = remove_none; unmapped = unmapped_none }
