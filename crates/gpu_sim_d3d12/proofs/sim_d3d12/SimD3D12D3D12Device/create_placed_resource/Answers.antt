use Rattle.std.proofs.Common.{rules}
use Rattle.gpu_sim_d3d12.proofs.sim_d3d12.SimD3D12D3D12Device.create_placed_resource.Goals as goal

pub returns-clause-names_clear_value : goal.returns-clause-names_clear_value
returns-clause-names_clear_value c = search rules
