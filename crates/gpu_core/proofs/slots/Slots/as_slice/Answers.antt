use Rattle.std.proofs.Common.{rules}
use Rattle.gpu_core.proofs.slots.Slots.as_slice.Goals as goal

pub returns : goal.returns
returns g c = search rules
