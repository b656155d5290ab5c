use Rattle.std.proofs.Common.{ap, subst}
use Rattle.gpu_vulkan.specs.State.{State, state_of, Pool}
use Rattle.gpu_vulkan.specs.Step.{IsStep, SetBudget, reply_of_done}
use Rattle.gpu_vulkan.proofs.Listed.{set_step}
use Rattle.gpu_vulkan.proofs.allocator.Allocator.set_budget.Goals as goal

pub returns-clause-step : goal.returns-clause-step
returns-clause-step g c =
    let V = g.D.VulkanDevice in
    let old = c.self.inside.pool in
    let new = c.set_budget.new.self in
    let e = c.set_budget.ensures in
    subst (λ (s : State g.row.D.Denot). IsStep V (SetBudget c.args.memory_type c.args.budget) (reply_of_done c.set_budget.result) s (state_of new)) c.self.view_is
    (set_step V (state_of old) (state_of new) c.args.memory_type c.args.budget c.set_budget.result (ap (λ (p : Pool g.row.D.Denot). p.source.device) e.others)
    (ap (λ (p : Pool g.row.D.Denot). p.slots) e.others) e.budgets)
