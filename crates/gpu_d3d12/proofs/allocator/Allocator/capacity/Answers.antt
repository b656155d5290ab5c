use Rattle.std.proofs.Common.{rules, ◌≡◌}
use Rattle.gpu_core.specs.Blocks.{total_capacity}
use Rattle.gpu_d3d12.proofs.Calls.{capacity_step}
use Rattle.gpu_d3d12.proofs.allocator.Allocator.capacity.Goals as goal

pub returns-clause-step : goal.returns-clause-step
returns-clause-step g c =
    let is : c.capacity.result ≡ total_capacity c.args.self.now.slots = search rules in
    capacity_step g.D.D3D12Device c.args.self.now c.capacity.result is
