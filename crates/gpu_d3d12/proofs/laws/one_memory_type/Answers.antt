use Rattle.gpu_d3d12.proofs.FirstServing.{one_first}
use Rattle.gpu_d3d12.proofs.laws.one_memory_type.Goals as goal

pub returns : goal.returns
returns c location category kinds i j one other = one_first location category kinds i j one other
