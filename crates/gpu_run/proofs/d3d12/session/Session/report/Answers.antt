use Rattle.std.proofs.Common.{refl, subst}
use Rattle.gpu_values.specs.Report.{report_of}
use Rattle.gpu_values.specs.Refusal.{refusal_of}
use Rattle.gpu_pool.specs.Reply as answers
use Rattle.gpu_pool.specs.Step as calls
use Rattle.gpu_d3d12.specs.Reply as module_replies
use Rattle.gpu_d3d12.specs.State.{basis_of, model_of}
use Rattle.gpu_d3d12.specs.Step as model
use Rattle.gpu_run.specs.D3D12Command as commands
use Rattle.gpu_run.specs.D3D12Reply as replies
use Rattle.gpu_run.specs.D3D12Served.{SessionValue, IsAnswered}
use Rattle.gpu_run.proofs.D3D12Counting.{pool_leaves}
use Rattle.gpu_run.proofs.D3D12Serving.{told}
use Rattle.gpu_run.proofs.d3d12.session.Session.report.Goals as goal

pub returns-in-Ok : goal.returns-in-Ok
returns-in-Ok g c =
    let V = g.D.D3D12Device in
    let s : SessionValue g.row.D.Denot = record { allocator = c.self.inside.allocator; bound = c.self.inside.bound.entries; resources = c.self.inside.resources.entries } in
    let step = c.in-Ok.ensures.step in
    let model_reply = module_replies.Pool (answers.Report (report_of c.in-Ok.report)) in
    let reply = replies.Report (report_of c.in-Ok.report) in
    let leaves = pool_leaves (basis_of V s.allocator) calls.Report step.environment model_reply (model_of V s.allocator) (model_of V s.allocator) step.step in
    subst (λ x. IsAnswered V commands.Report reply x x) c.self.view_is
    (told V g.met.D.D3D12Device.refused_is model.Report model_reply reply commands.Report s s refl refl refl refl refl step leaves (λ a. a) refl)

pub returns-in-Err : goal.returns-in-Err
returns-in-Err g c =
    let V = g.D.D3D12Device in
    let s : SessionValue g.row.D.Denot = record { allocator = c.self.inside.allocator; bound = c.self.inside.bound.entries; resources = c.self.inside.resources.entries } in
    let step = c.in-Err.ensures.step in
    let model_reply = module_replies.Pool (answers.Error (refusal_of c.in-Err.error)) in
    let reply = replies.Error (refusal_of c.in-Err.error) in
    let leaves = pool_leaves (basis_of V s.allocator) calls.Report step.environment model_reply (model_of V s.allocator) (model_of V s.allocator) step.step in
    subst (λ x. IsAnswered V commands.Report reply x x) c.self.view_is
    (told V g.met.D.D3D12Device.refused_is model.Report model_reply reply commands.Report s s refl refl refl refl refl step leaves (λ a. a) refl)
