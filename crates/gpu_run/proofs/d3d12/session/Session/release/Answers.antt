use Rattle.std.proofs.Common.{◌≡◌, ◌∙◌, Some, None, true, refl, ap, sym, subst}
use Rattle.gpu_pool.specs.Reply as answers
use Rattle.gpu_d3d12.specs.Reply as module_replies
use Rattle.gpu_d3d12.specs.State.{basis_of, model_of, pool_of}
use Rattle.gpu_d3d12.specs.Step.{Environment}
use Rattle.gpu_run.specs.Bindings.{bindings_of}
use Rattle.gpu_run.proofs.Binding.{rebound}
use Rattle.gpu_run.specs.D3D12Command.{Release, UnderResource}
use Rattle.gpu_run.specs.D3D12Reply as replies
use Rattle.gpu_run.specs.D3D12Session as sessions
use Rattle.gpu_run.specs.D3D12Served.{SessionValue, session_of, IsAnswered, without}
use Rattle.gpu_run.proofs.D3D12Growing.{release_shrinks, never_refused}
use Rattle.gpu_run.proofs.D3D12Owning.{owns_released}
use Rattle.gpu_run.proofs.D3D12Serving.{quiet, serves_resource_at, constant_by, no_reason, answered_quietly, answered_by}
use Rattle.gpu_run.proofs.d3d12.session.Session.release.Goals as goal

pub returns-in-None : goal.returns-in-None
returns-in-None g c =
    let V = g.D.D3D12Device in
    let s : SessionValue g.row.D.Denot = record { allocator = c.self.inside.allocator; bound = c.self.inside.bound.entries; resources = c.self.inside.resources.entries } in
    let new : SessionValue g.row.D.Denot = record { allocator = c.self.inside.allocator; bound = c.self.inside.bound.entries; resources = c.remove.new.self.entries } in
    let same : session_of V new ≡ session_of V s =
    ap (λ es. session_of V (record { allocator = c.self.inside.allocator; bound = c.self.inside.bound.entries; resources = es })) c.in-None.ensures.unchanged in
    let none : bindings_of s.resources c.args.key ≡ None = sym c.in-None.ensures.value in
    subst (λ x. IsAnswered V (UnderResource c.args.key Release) replies.Unbound x new) c.self.view_is
    (answered_quietly V s new (UnderResource c.args.key Release) replies.Unbound quiet refl refl
    (serves_resource_at (basis_of V s.allocator) (session_of V s) (session_of V new) c.args.key Release quiet replies.Unbound None none (refl, (refl, same)))
    (ap (λ o. without o s.allocator.journal) none))

pub returns-in-Ok : goal.returns-in-Ok
returns-in-Ok g c =
    let V = g.D.D3D12Device in
    let s : SessionValue g.row.D.Denot = record { allocator = c.self.inside.allocator; bound = c.self.inside.bound.entries; resources = c.self.inside.resources.entries } in
    let new : SessionValue g.row.D.Denot = record { allocator = c.free_resource.new.self; bound = c.self.inside.bound.entries; resources = c.remove.new.self.entries } in
    let r = c.in-Some.resource in
    let some : bindings_of s.resources c.args.key ≡ Some r = sym c.in-Some.ensures.value in
    let step = c.in-Ok.ensures.step in
    let o : sessions.CommandEnvironment = record { room = true; met = step.environment } in
    let shrinks = release_shrinks (basis_of V s.allocator) r step.environment (module_replies.Pool answers.Done) (model_of V s.allocator) (model_of V new.allocator) step.step in
    subst (λ x. IsAnswered V (UnderResource c.args.key Release) replies.Done x new) c.self.view_is
    (answered_by V g.met.D.D3D12Device.refused_is (UnderResource c.args.key Release) replies.Done o s new shrinks.count
    (no_reason V o.met.resource (pool_of new.allocator).source (ap (λ (m : Environment). m.resource) step.step.0))
    (constant_by V s new c.free_resource.ensures.constant.0 c.free_resource.ensures.constant.1 step.same_version)
    (serves_resource_at (basis_of V s.allocator) (session_of V s) (session_of V new) c.args.key Release o replies.Done (Some r) some
    (record { done = refl; step = step.step; resources = rebound s.resources new.resources c.args.key None c.remove.ensures.updates.0; bound = refl }))
    (c.in-Ok.ensures.journal ∙ ap (λ o. without o s.allocator.journal) (sym some)))

pub invariant_of-self-in-Some : goal.invariant_of-self-in-Some
invariant_of-self-in-Some g c =
    let V = g.D.D3D12Device in
    let s : SessionValue g.row.D.Denot = record { allocator = c.self.inside.allocator; bound = c.self.inside.bound.entries; resources = c.self.inside.resources.entries } in
    let new : SessionValue g.row.D.Denot = record { allocator = c.free_resource.new.self; bound = c.self.inside.bound.entries; resources = c.remove.new.self.entries } in
    let r = c.in-Some.resource in
    let step = c.free_resource.ensures.step in
    let shrinks = release_shrinks (basis_of V s.allocator) r step.environment _ (model_of V s.allocator) (model_of V new.allocator) step.step in
    owns_released (session_of V s) c.self.invariant (session_of V new) c.args.key r (sym c.in-Some.ensures.value) (rebound s.resources new.resources c.args.key None c.remove.ensures.updates.0) refl
    c.free_resource.ensures.keeps shrinks.beside shrinks.records

pub unreachable-requires : goal.unreachable-requires
unreachable-requires g c =
    let V = g.D.D3D12Device in
    let s : SessionValue g.row.D.Denot = record { allocator = c.self.inside.allocator; bound = c.self.inside.bound.entries; resources = c.self.inside.resources.entries } in
    let r = c.in-Some.resource in
    let step = c.in-Err.ensures.step in
    let kept = (c.self.invariant.resources.live c.args.key r (sym c.in-Some.ensures.value)).kept in
    never_refused (basis_of V s.allocator) r step.environment _ (model_of V s.allocator) (model_of V c.free_resource.new.self) step.step kept
