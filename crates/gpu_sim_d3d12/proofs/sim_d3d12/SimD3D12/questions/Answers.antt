use Rattle.std.proofs.Common.{rules}
use Rattle.gpu_sim_d3d12.proofs.sim_d3d12.SimD3D12.questions.Goals as goal

pub returns : goal.returns
returns c = search rules
