use Rattle.std.proofs.Common.{rules, ◌≡◌}
use Rattle.gpu_core.specs.Budgets.{budget_at}
use Rattle.gpu_d3d12.proofs.Calls.{budget_step}
use Rattle.gpu_d3d12.proofs.allocator.Allocator.budget.Goals as goal

pub returns-clause-step : goal.returns-clause-step
returns-clause-step g c =
    let is : c.budget.result ≡ budget_at c.args.self.now.budgets c.args.memory_type = search rules in
    budget_step g.D.D3D12Device c.args.self.now c.args.memory_type c.budget.result is
