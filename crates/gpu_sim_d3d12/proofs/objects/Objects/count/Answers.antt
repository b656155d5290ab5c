use Rattle.std.proofs.Common.{rules}
use Rattle.gpu_sim_d3d12.proofs.objects.Objects.count.Goals as goal

pub returns : goal.returns
returns c = search rules
