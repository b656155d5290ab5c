use Rattle.std.proofs.Common.{rules}
use Rattle.gpu_sim_d3d12.proofs.sim_d3d12.SimD3D12D3D12Device.create_heap.Goals as goal

pub returns-clause-holds : goal.returns-clause-holds
returns-clause-holds c = search rules

pub returns-clause-names_heap : goal.returns-clause-names_heap
returns-clause-names_heap c = search rules
