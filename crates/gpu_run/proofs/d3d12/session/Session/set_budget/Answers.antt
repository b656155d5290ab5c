use Rattle.std.proofs.Common.{◌≡◌, Some, refl, ap, sym, subst}
use Rattle.gpu_values.specs.Refusal.{refusal_of}
use Rattle.gpu_pool.specs.Reply as answers
use Rattle.gpu_pool.specs.Step as calls
use Rattle.gpu_d3d12.specs.Live.{IsLive}
use Rattle.gpu_d3d12.specs.Reply as module_replies
use Rattle.gpu_d3d12.specs.State.{basis_of, model_of, beside_of}
use Rattle.gpu_d3d12.specs.Step as model
use Rattle.gpu_run.specs.D3D12Command as commands
use Rattle.gpu_run.specs.D3D12Reply.{reply_of}
use Rattle.gpu_run.specs.D3D12Served.{SessionValue, session_of, IsAnswered}
use Rattle.gpu_run.proofs.D3D12Counting.{pool_leaves}
use Rattle.gpu_run.proofs.D3D12Owning.{more_by, owns_still}
use Rattle.gpu_run.proofs.D3D12Serving.{told}
use Rattle.gpu_run.proofs.d3d12.session.Session.set_budget.Goals as goal
use Rattle.gpu_run.proofs.d3d12.session.Session.set_budget.Goals.{in-Ok, in-Err}

pub invariant_of-self : goal.invariant_of-self
invariant_of-self g c =
    let V = g.D.D3D12Device in
    let s : SessionValue g.row.D.Denot = record { allocator = c.self.inside.allocator; bound = c.self.inside.bound.entries; resources = c.self.inside.resources.entries } in
    let new : SessionValue g.row.D.Denot = record { allocator = c.set_budget.new.self; bound = s.bound; resources = s.resources } in
    let others = c.set_budget.ensures.others in
    owns_still (session_of V s) c.self.invariant (session_of V new) refl refl
    (more_by (model_of V s.allocator) (model_of V new.allocator) (λ a live. subst (λ slots. IsLive slots a) (sym (ap (λ k. k.slots) others)) live) (ap (λ k. beside_of V k) others) (ap (λ k. k.committed) others))

pub returns : goal.returns
returns g c =
    let V = g.D.D3D12Device in
    let s : SessionValue g.row.D.Denot = record { allocator = c.self.inside.allocator; bound = c.self.inside.bound.entries; resources = c.self.inside.resources.entries } in
    let new : SessionValue g.row.D.Denot = record { allocator = c.set_budget.new.self; bound = s.bound; resources = s.resources } in
    let reply = reply_of c.match-set_budget.result in
    let call = model.SetBudget c.args.memory_type c.args.budget in
    let command = commands.SetBudget c.args.memory_type c.args.budget in
    let others = c.set_budget.ensures.others in
    let first : new.allocator.first ≡ s.allocator.first = ap (λ k. k.first) others in
    let setup : new.allocator.setup ≡ s.allocator.setup = ap (λ k. k.setup) others in
    let journal : new.allocator.journal ≡ s.allocator.journal = ap (λ k. k.journal) others in
    let leaves = pool_leaves (basis_of V s.allocator) (calls.SetBudget c.args.memory_type c.args.budget) in
    subst (λ x. IsAnswered V command reply x new) c.self.view_is
    (elim c.match-set_budget.branch [
      | in-Ok w ↦
          let step = w.in-Ok.ensures.step in
          let is = module_replies.Pool answers.Done in
          told V g.met.D.D3D12Device.refused_is call is reply command s new (ap (λ r. Some (reply_of r)) (sym w.result-is)) refl refl first setup step
          (leaves step.environment is (model_of V s.allocator) (model_of V new.allocator) step.step) (λ a. a) journal
      | in-Err w ↦
          let step = w.in-Err.ensures.step in
          let is = module_replies.Pool (answers.Error (refusal_of w.in-Err.error)) in
          told V g.met.D.D3D12Device.refused_is call is reply command s new (ap (λ r. Some (reply_of r)) (sym w.result-is)) refl refl first setup step
          (leaves step.environment is (model_of V s.allocator) (model_of V new.allocator) step.step) (λ a. a) journal
    ])
