use Rattle.std.proofs.Common.{ap, subst}
use Rattle.gpu_d3d12.specs.State.{State, state_of, Pool}
use Rattle.gpu_d3d12.specs.Step.{IsStep, SetBudget, reply_of_done}
use Rattle.gpu_d3d12.proofs.Calls.{set_step}
use Rattle.gpu_d3d12.proofs.allocator.Allocator.set_budget.Goals as goal

pub returns-clause-step : goal.returns-clause-step
returns-clause-step g c =
    let V = g.D.D3D12Device in
    let i = c.self.inside in
    let now = c.set_budget.new.self in
    let e = c.set_budget.ensures in
    subst (λ (s : State g.row.D.Denot). IsStep V (SetBudget c.args.memory_type c.args.budget) (reply_of_done c.set_budget.result) s (state_of now i.committed i.debug)) c.self.view_is
    (set_step V c.args.memory_type c.args.budget (state_of i.pool i.committed i.debug) (state_of now i.committed i.debug) c.set_budget.result e.budgets
    (ap (λ (p : Pool g.row.D.Denot). state_of p i.committed i.debug) e.others))
