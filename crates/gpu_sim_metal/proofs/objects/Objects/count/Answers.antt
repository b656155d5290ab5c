use Rattle.std.proofs.Common.{rules}
use Rattle.gpu_sim_metal.proofs.objects.Objects.count.Goals as goal

pub returns : goal.returns
returns c = search rules
