use Rattle.gpu_metal.proofs.FirstServing.{one_first}
use Rattle.gpu_metal.proofs.laws.one_memory_type.Goals as goal

pub returns : goal.returns
returns c location i j one other = one_first location i j one other
