use Rattle.std.proofs.Common.{refl}
use Rattle.gpu_core.specs.Types.{slots_of}
use Rattle.gpu_machine.proofs.VulkanBeginning.{slots_lent}
use Rattle.gpu_c.proofs.types_visit.type_at.Goals as goal

pub returns : goal.returns
returns g c = slots_lent (slots_of c.args.types.now) c.args.types.now c.args.index c.memory_type.result refl c.memory_type.ensures
