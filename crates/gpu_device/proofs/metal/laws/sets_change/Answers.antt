use Rattle.gpu_device.proofs.HeapsAndSets.{get-with_member, get-without_member, get-with_commit}
use Rattle.gpu_device.proofs.metal.laws.sets_change.Goals as goal

pub returns : goal.returns
returns c = record { added = get-with_member; removed = get-without_member; committed = get-with_commit }
