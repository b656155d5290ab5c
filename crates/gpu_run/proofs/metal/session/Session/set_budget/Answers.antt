use Rattle.std.proofs.Common.{Some, refl, ap, sym, subst}
use Rattle.gpu_values.specs.Refusal.{refusal_of}
use Rattle.gpu_pool.specs.Reply as answers
use Rattle.gpu_metal.specs.Step as model
use Rattle.gpu_run.specs.MetalCommand as commands
use Rattle.gpu_run.specs.MetalReply.{reply_of}
use Rattle.gpu_run.specs.MetalServed.{SessionValue, IsConstant, IsAnswered}
use Rattle.gpu_run.proofs.MetalServing.{told}
use Rattle.gpu_run.proofs.metal.session.Session.set_budget.Goals as goal
use Rattle.gpu_run.proofs.metal.session.Session.set_budget.Goals.{in-Ok, in-Err}

pub returns : goal.returns
returns g c =
    let V = g.D.MetalDevice in
    let s : SessionValue g.row.D.Denot = record { allocator = c.self.inside.allocator; bound = c.self.inside.bound.entries } in
    let new : SessionValue g.row.D.Denot = record { allocator = c.set_budget.new.self; bound = s.bound } in
    let reply = reply_of c.match-set_budget.result in
    let call = model.SetBudget c.args.memory_type c.args.budget in
    let constant : IsConstant V s new = (ap (λ a. a.first) c.set_budget.ensures.others, ap (λ a. a.setup) c.set_budget.ensures.others) in
    subst (λ x. IsAnswered V (commands.SetBudget c.args.memory_type c.args.budget) reply x new) c.self.view_is
    (elim c.match-set_budget.branch [
      | in-Ok w ↦
          told V g.met.D.MetalDevice.refused_is call answers.Done reply (commands.SetBudget c.args.memory_type c.args.budget) s new (ap (λ r. Some (reply_of r)) (sym w.result-is)) refl constant
          w.in-Ok.ensures.step (λ a. a)
      | in-Err w ↦
          told V g.met.D.MetalDevice.refused_is call (answers.Error (refusal_of w.in-Err.error)) reply (commands.SetBudget c.args.memory_type c.args.budget) s new
          (ap (λ r. Some (reply_of r)) (sym w.result-is)) refl constant w.in-Err.ensures.step (λ a. a)
    ])
