use Rattle.std.proofs.Common.{refl, subst}
use Rattle.std.specs.Prelude.{map, string_bytes}
use Rattle.gpu_values.specs.Refusal.{refusal_of}
use Rattle.gpu_pool.specs.Reply as answers
use Rattle.gpu_pool.specs.Step as calls
use Rattle.gpu_d3d12.specs.Reply as module_replies
use Rattle.gpu_d3d12.specs.State.{basis_of, model_of}
use Rattle.gpu_d3d12.specs.Step as model
use Rattle.gpu_run.specs.D3D12Command as commands
use Rattle.gpu_run.specs.D3D12Reply as replies
use Rattle.gpu_run.specs.D3D12Served.{SessionValue, IsAnswered}
use Rattle.gpu_run.proofs.D3D12Counting.{pool_leaves}
use Rattle.gpu_run.proofs.D3D12Serving.{told}
use Rattle.gpu_run.proofs.d3d12.session.Session.leaks.Goals as goal

pub returns-in-Ok : goal.returns-in-Ok
returns-in-Ok g c =
    let V = g.D.D3D12Device in
    let s : SessionValue g.row.D.Denot = record { allocator = c.self.inside.allocator; bound = c.self.inside.bound.entries; resources = c.self.inside.resources.entries } in
    let step = c.in-Ok.ensures.step in
    let model_reply = module_replies.Pool (answers.LeakTexts (map (λ t. string_bytes t) c.in-Ok.texts.items)) in
    let reply = replies.Leaks (map (λ t. string_bytes t) c.in-Ok.texts.items) in
    let leaves = pool_leaves (basis_of V s.allocator) calls.LeakTexts step.environment model_reply (model_of V s.allocator) (model_of V s.allocator) step.step in
    subst (λ x. IsAnswered V commands.Leaks reply x x) c.self.view_is
    (told V g.met.D.D3D12Device.refused_is model.Leaks model_reply reply commands.Leaks s s refl refl refl refl refl step leaves (λ a. a) refl)

pub returns-in-Err : goal.returns-in-Err
returns-in-Err g c =
    let V = g.D.D3D12Device in
    let s : SessionValue g.row.D.Denot = record { allocator = c.self.inside.allocator; bound = c.self.inside.bound.entries; resources = c.self.inside.resources.entries } in
    let step = c.in-Err.ensures.step in
    let model_reply = module_replies.Pool (answers.Error (refusal_of c.in-Err.error)) in
    let reply = replies.Error (refusal_of c.in-Err.error) in
    let leaves = pool_leaves (basis_of V s.allocator) calls.LeakTexts step.environment model_reply (model_of V s.allocator) (model_of V s.allocator) step.step in
    subst (λ x. IsAnswered V commands.Leaks reply x x) c.self.view_is
    (told V g.met.D.D3D12Device.refused_is model.Leaks model_reply reply commands.Leaks s s refl refl refl refl refl step leaves (λ a. a) refl)
