use Rattle.gpu_device.proofs.Maps.{remove-insert}
use Rattle.gpu_device.proofs.Changes.{remove-mapped, remove-unmapped, remove-written}
use Rattle.gpu_device.proofs.vulkan.laws.giving_back_undoes.Goals as goal

pub returns : goal.returns
returns c = record { added = remove-insert; mapped = remove-mapped; written = remove-written; unmapped = remove-unmapped }
