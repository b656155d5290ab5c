use Rattle.std.proofs.Common.{arith, pow_pos}
use Rattle.gpu_vulkan.proofs.TypeBits.{at_least}
use Rattle.gpu_machine.proofs.vulkan.description.without.Goals as goal

pub returns-clause-fewer : goal.returns-clause-fewer
returns-clause-fewer c = let up = at_least c.args.desc.now.requirements.memory_type_bits c.args.index c.requires.is_set in omega (arith, up, c.without_type.ensures, pow_pos c.args.index)
