use Rattle.std.proofs.Common.{rules}
use Rattle.gpu_sim_d3d12.proofs.sim_d3d12.SimD3D12D3D12Device.release_resource.Goals as goal

pub returns-clause-gives_back : goal.returns-clause-gives_back
returns-clause-gives_back c = search rules
