use Rattle.std.proofs.Common.{◌≡◌, Some, None, true, refl, ap, sym, subst}
use Rattle.gpu_pool.specs.Reply as answers
use Rattle.gpu_pool.specs.Step as calls
use Rattle.gpu_pool.specs.Allocation.{piece_of}
use Rattle.gpu_d3d12.specs.Reply as module_replies
use Rattle.gpu_d3d12.specs.State.{basis_of, model_of}
use Rattle.gpu_run.specs.Bindings.{bindings_of}
use Rattle.gpu_run.proofs.Binding.{rebound}
use Rattle.gpu_run.specs.D3D12Command.{Free, Under}
use Rattle.gpu_run.specs.D3D12Reply as replies
use Rattle.gpu_run.specs.D3D12Session as sessions
use Rattle.gpu_run.specs.D3D12Served.{SessionValue, session_of, IsAnswered}
use Rattle.gpu_run.proofs.D3D12Counting.{pool_leaves}
use Rattle.gpu_run.proofs.D3D12Owning.{owns_freed}
use Rattle.gpu_run.proofs.D3D12Serving.{quiet, serves_at, constant_by, answered_quietly, answered_apart}
use Rattle.gpu_run.proofs.d3d12.session.Session.free.Goals as goal

pub returns-in-None : goal.returns-in-None
returns-in-None g c =
    let V = g.D.D3D12Device in
    let s : SessionValue g.row.D.Denot = record { allocator = c.self.inside.allocator; bound = c.self.inside.bound.entries; resources = c.self.inside.resources.entries } in
    let new : SessionValue g.row.D.Denot = record { allocator = c.self.inside.allocator; bound = c.remove.new.self.entries; resources = c.self.inside.resources.entries } in
    let same : session_of V new ≡ session_of V s =
    ap (λ es. session_of V (record { allocator = c.self.inside.allocator; bound = es; resources = c.self.inside.resources.entries })) c.in-None.ensures.unchanged in
    let none : bindings_of s.bound c.args.key ≡ None = sym c.in-None.ensures.value in
    subst (λ x. IsAnswered V (Under c.args.key Free) replies.Unbound x new) c.self.view_is
    (answered_quietly V s new (Under c.args.key Free) replies.Unbound quiet refl refl
    (serves_at (basis_of V s.allocator) (session_of V s) (session_of V new) c.args.key Free quiet replies.Unbound None none (refl, (refl, same))) refl)

pub returns-in-Ok : goal.returns-in-Ok
returns-in-Ok g c =
    let V = g.D.D3D12Device in
    let s : SessionValue g.row.D.Denot = record { allocator = c.self.inside.allocator; bound = c.self.inside.bound.entries; resources = c.self.inside.resources.entries } in
    let new : SessionValue g.row.D.Denot = record { allocator = c.free.new.self; bound = c.remove.new.self.entries; resources = c.self.inside.resources.entries } in
    let a = c.in-Some.allocation in
    let some : bindings_of s.bound c.args.key ≡ Some a = sym c.in-Some.ensures.value in
    let step = c.in-Ok.ensures.step in
    let o : sessions.CommandEnvironment = record { room = true; met = step.environment } in
    let leaves = pool_leaves (basis_of V s.allocator) (calls.Free a.memory_type_index (piece_of a)) step.environment (module_replies.Pool answers.Done) (model_of V s.allocator) (model_of V new.allocator) step.step in
    subst (λ x. IsAnswered V (Under c.args.key Free) replies.Done x new) c.self.view_is
    (answered_apart V g.met.D.D3D12Device.refused_is (Under c.args.key Free) replies.Done o s new leaves
    (constant_by V s new c.free.ensures.constant.0 c.free.ensures.constant.1 step.same_version)
    (serves_at (basis_of V s.allocator) (session_of V s) (session_of V new) c.args.key Free o replies.Done (Some a) some
    (record { done = refl; step = step.step; bound = rebound s.bound new.bound c.args.key None c.remove.ensures.updates.0; resources = refl })) c.free.ensures.journal)

pub invariant_of-self-in-Some : goal.invariant_of-self-in-Some
invariant_of-self-in-Some g c =
    let V = g.D.D3D12Device in
    let s : SessionValue g.row.D.Denot = record { allocator = c.self.inside.allocator; bound = c.self.inside.bound.entries; resources = c.self.inside.resources.entries } in
    let new : SessionValue g.row.D.Denot = record { allocator = c.free.new.self; bound = c.remove.new.self.entries; resources = c.self.inside.resources.entries } in
    let a = c.in-Some.allocation in
    let step = c.free.ensures.step in
    let leaves = pool_leaves (basis_of V s.allocator) (calls.Free a.memory_type_index (piece_of a)) step.environment _ (model_of V s.allocator) (model_of V new.allocator) step.step in
    owns_freed (session_of V s) c.self.invariant (session_of V new) c.args.key a (sym c.in-Some.ensures.value) (rebound s.bound new.bound c.args.key None c.remove.ensures.updates.0) refl
    c.free.ensures.keeps leaves.beside leaves.committed
