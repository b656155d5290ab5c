use Rattle.std.proofs.Common.{◌∙◌, refl, sym, ap, None, Some}
use Rattle.gpu_core.specs.TypeState.{capacity_of}
use Rattle.gpu_core.specs.Types.{slots_of}
use Rattle.gpu_machine.proofs.VulkanBeginning.{slots_lent}
use Rattle.gpu_machine.proofs.vulkan.heap_limit.capacity_at.Goals as goal

pub returns-in-None : goal.returns-in-None
returns-in-None g c = ap capacity_of (sym (slots_lent (slots_of c.args.types.now) c.args.types.now c.args.index None refl c.in-None.ensures))

pub returns-in-Some : goal.returns-in-Some
returns-in-Some g c =
    c.capacity.ensures ∙ ap capacity_of (sym (slots_lent (slots_of c.args.types.now) c.args.types.now c.args.index (Some c.in-Some.found) refl c.in-Some.ensures))
