use Rattle.gpu_device.proofs.Maps.{get-insert_same}
use Rattle.gpu_device.proofs.d3d12.laws.granting_adds.Goals as goal

pub returns : goal.returns
returns c = λ held number e. get-insert_same held number e
