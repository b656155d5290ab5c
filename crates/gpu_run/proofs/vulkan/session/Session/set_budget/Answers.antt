use Rattle.std.proofs.Common.{Some, refl, ap, sym, subst}
use Rattle.gpu_values.specs.Refusal.{refusal_of}
use Rattle.gpu_vulkan.specs.Reply as answers
use Rattle.gpu_vulkan.specs.Step as model
use Rattle.gpu_run.specs.VulkanCommand as commands
use Rattle.gpu_run.specs.VulkanServed.{SessionValue, reply_of, IsCommandServed}
use Rattle.gpu_run.proofs.VulkanServing.{told}
use Rattle.gpu_run.proofs.vulkan.session.Session.set_budget.Goals as goal
use Rattle.gpu_run.proofs.vulkan.session.Session.set_budget.Goals.{in-Ok, in-Err}

pub returns : goal.returns
returns g c =
    let V = g.D.VulkanDevice in
    let s : SessionValue g.row.D.Denot = record { allocator = c.self.inside.allocator; bound = c.self.inside.bound.entries } in
    let new : SessionValue g.row.D.Denot = record { allocator = c.set_budget.new.self; bound = s.bound } in
    let reply = reply_of c.match-set_budget.result in
    let call = model.SetBudget c.args.memory_type c.args.budget in
    let command = commands.SetBudget c.args.memory_type c.args.budget in
    subst (λ x. IsCommandServed V command reply x new) c.self.view_is
    (elim c.match-set_budget.branch [
      | in-Ok w ↦
          told V call answers.Done command reply s new (ap (λ r. Some (reply_of r)) (sym w.result-is)) refl c.set_budget.ensures.others w.in-Ok.ensures.step (λ a. a)
      | in-Err w ↦
          told V call (answers.Error (refusal_of w.in-Err.error)) command reply s new (ap (λ r. Some (reply_of r)) (sym w.result-is)) refl c.set_budget.ensures.others w.in-Err.ensures.step (λ a. a)
    ])
