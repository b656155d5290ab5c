use Rattle.std.proofs.Common.{rules, ◌≡◌}
use Rattle.gpu_d3d12.specs.Committed.{statistics_at}
use Rattle.gpu_d3d12.proofs.Calls.{statistics_step}
use Rattle.gpu_d3d12.proofs.allocator.Allocator.committed.Goals as goal

pub returns-clause-step : goal.returns-clause-step
returns-clause-step g c =
    let is : c.statistics.result ≡ statistics_at c.args.self.now.committed c.args.memory_type = search rules in
    statistics_step g.D.D3D12Device c.args.self.now c.args.memory_type c.statistics.result is
