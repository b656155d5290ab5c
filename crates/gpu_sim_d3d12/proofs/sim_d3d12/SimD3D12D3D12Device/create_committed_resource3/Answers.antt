use Rattle.std.proofs.Common.{rules}
use Rattle.gpu_sim_d3d12.proofs.sim_d3d12.SimD3D12D3D12Device.create_committed_resource3.Goals as goal

pub returns-clause-names_formats : goal.returns-clause-names_formats
returns-clause-names_formats c = search rules
