use Rattle.std.proofs.Common.{◌≡◌, sym, subst, rules}
use Rattle.gpu_machine.specs.VulkanBound.{bound_at, BoundsBlocks}
use Rattle.gpu_machine.proofs.VulkanBounds.{bounds}
use Rattle.gpu_machine.proofs.vulkan.machine.Machine.bound.Goals as goal

pub returns-clause-value : goal.returns-clause-value
returns-clause-value g c = search rules

pub returns-clause-law : goal.returns-clause-law
returns-clause-law g c = subst (BoundsBlocks c.args.self.now c.args.index) (sym (returns-clause-value g c)) (bounds c.args.self.now c.args.index)
