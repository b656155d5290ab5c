use Rattle.std.proofs.Common.{sym, ◌∙◌}
use Rattle.gpu_sim_base.proofs.Holding.{count_held}
use Rattle.gpu_sim_d3d12.specs.Objects.{entry_of}
use Rattle.gpu_sim_d3d12.proofs.sim_d3d12.SimD3D12.held.Goals as goal

pub returns : goal.returns
returns c = c.count.ensures ∙ sym (count_held entry_of c.args.self.now.objects.numbers.slots.items)
