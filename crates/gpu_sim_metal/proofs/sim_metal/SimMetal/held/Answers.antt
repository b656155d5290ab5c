use Rattle.std.proofs.Common.{sym, ◌∙◌}
use Rattle.gpu_sim_base.proofs.Holding.{count_held}
use Rattle.gpu_sim_metal.specs.Objects.{entry_of}
use Rattle.gpu_sim_metal.proofs.sim_metal.SimMetal.held.Goals as goal

pub returns : goal.returns
returns c = c.count.ensures ∙ sym (count_held entry_of c.args.self.now.objects.numbers.slots.items)
