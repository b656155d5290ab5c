use Rattle.std.proofs.Common.{◌≡◌, Some, None, refl, ap, sym, subst}
use Rattle.std.specs.Prelude.{IsSome}
use Rattle.gpu_pool.specs.Step as calls
use Rattle.gpu_pool.specs.Allocation.{piece_of}
use Rattle.gpu_d3d12.specs.State.{basis_of, model_of}
use Rattle.gpu_run.specs.Bindings.{bindings_of}
use Rattle.gpu_run.proofs.Binding.{rebound}
use Rattle.gpu_run.specs.D3D12Command.{Rename, Under}
use Rattle.gpu_run.specs.D3D12Reply as replies
use Rattle.gpu_run.specs.D3D12Reply.{reply_of}
use Rattle.gpu_run.specs.D3D12Served.{SessionValue, session_of, IsAnswered}
use Rattle.gpu_run.proofs.D3D12Allocating.{renamed, not_renamed}
use Rattle.gpu_run.proofs.D3D12Counting.{pool_leaves}
use Rattle.gpu_run.proofs.D3D12Owning.{more_by, owns_renamed}
use Rattle.gpu_run.proofs.D3D12Naming.{live_named, alike_named}
use Rattle.gpu_run.proofs.D3D12Serving.{quiet, serves_at, answered_quietly}
use Rattle.gpu_run.proofs.d3d12.session.Session.rename.Goals as goal
use Rattle.gpu_run.proofs.d3d12.session.Session.rename.Goals.{in-Ok, in-Err}

pub returns-in-None : goal.returns-in-None
returns-in-None g c =
    let V = g.D.D3D12Device in
    let s : SessionValue g.row.D.Denot = record { allocator = c.self.inside.allocator; bound = c.self.inside.bound.entries; resources = c.self.inside.resources.entries } in
    let new : SessionValue g.row.D.Denot = record { allocator = c.self.inside.allocator; bound = c.get_mut.follows.lender-at-none.entries; resources = c.self.inside.resources.entries } in
    let same : s ≡ new = ap (λ m. record { allocator = s.allocator; bound = m.entries; resources = s.resources }) (sym (c.get_mut.follows.holds-at-none)) in
    let none : bindings_of s.bound c.args.key ≡ None = sym c.in-None.ensures.value in
    subst (λ x. IsAnswered V (Under c.args.key (Rename c.args.name.now)) replies.Unbound x new) c.self.view_is
    (subst (λ y. IsAnswered V (Under c.args.key (Rename c.args.name.now)) replies.Unbound s y) same
    (answered_quietly V s s (Under c.args.key (Rename c.args.name.now)) replies.Unbound quiet refl refl
    (serves_at (basis_of V s.allocator) (session_of V s) (session_of V s) c.args.key (Rename c.args.name.now) quiet replies.Unbound None none (refl, (refl, refl))) refl))

pub returns-after-rename_allocation : goal.returns-after-rename_allocation
returns-after-rename_allocation g c =
    let V = g.D.D3D12Device in
    let s : SessionValue g.row.D.Denot = record { allocator = c.self.inside.allocator; bound = c.self.inside.bound.entries; resources = c.self.inside.resources.entries } in
    let a = c.in-Some.allocation.now in
    let b = c.rename_allocation.new.allocation in
    let new : SessionValue g.row.D.Denot = record { allocator = c.rename_allocation.new.self; bound = (c.get_mut.follows.lender b).entries; resources = c.self.inside.resources.entries } in
    let found : bindings_of s.bound c.args.key ≡ Some a = sym c.in-Some.ensures.value in
    let some : IsSome (bindings_of s.bound c.args.key) = subst (λ o. IsSome o) (sym found) refl in
    let is = rebound s.bound new.bound c.args.key (Some b) ((c.get_mut.follows.holds b).3 some).0 in
    let reply = reply_of c.match-rename_allocation.result in
    let constant = c.rename_allocation.ensures.constant in
    subst (λ x. IsAnswered V (Under c.args.key (Rename c.args.name.now)) reply x new) c.self.view_is
    (elim c.match-rename_allocation.branch [
      | in-Ok w ↦
          renamed V g.met.D.D3D12Device.refused_is s new c.args.key constant.1 constant.2 refl c.rename_allocation.ensures.journal c.args.name.now a b reply found is
          w.in-Ok.ensures.renames.allocation_is (ap reply_of w.result-is) w.in-Ok.ensures.step
      | in-Err w ↦
          not_renamed V g.met.D.D3D12Device.refused_is s new c.args.key constant.1 constant.2 refl c.rename_allocation.ensures.journal c.args.name.now a b reply found is
          w.in-Err.error w.in-Err.ensures.renames.allocation_is (ap reply_of w.result-is) w.in-Err.ensures.step
    ])

pub invariant_of-self-in-Some : goal.invariant_of-self-in-Some
invariant_of-self-in-Some g c =
    let V = g.D.D3D12Device in
    let s : SessionValue g.row.D.Denot = record { allocator = c.self.inside.allocator; bound = c.self.inside.bound.entries; resources = c.self.inside.resources.entries } in
    let a = c.in-Some.allocation.now in
    let b = c.rename_allocation.new.allocation in
    let new : SessionValue g.row.D.Denot = record { allocator = c.rename_allocation.new.self; bound = (c.get_mut.follows.lender b).entries; resources = c.self.inside.resources.entries } in
    let found : bindings_of s.bound c.args.key ≡ Some a = sym c.in-Some.ensures.value in
    let some : IsSome (bindings_of s.bound c.args.key) = subst (λ o. IsSome o) (sym found) refl in
    let is = rebound s.bound new.bound c.args.key (Some b) ((c.get_mut.follows.holds b).3 some).0 in
    let step = c.rename_allocation.ensures.step in
    let leaves = pool_leaves (basis_of V s.allocator) (calls.Rename a.memory_type_index (piece_of a) c.args.name.now) step.environment _ (model_of V s.allocator) (model_of V new.allocator) step.step in
    let names = c.rename_allocation.ensures.renames.allocation_is in
    let was = c.self.invariant.allocations.live c.args.key a found in
    owns_renamed (session_of V s) c.self.invariant (session_of V new) c.args.key a b found is refl
    (more_by (model_of V s.allocator) (model_of V new.allocator) c.rename_allocation.ensures.live leaves.beside leaves.committed)
    (live_named new.allocator.slots a b c.args.name.now c.rename_allocation.result names (c.rename_allocation.ensures.live a was))
    (λ d apart. alike_named a b c.args.name.now c.rename_allocation.result names d apart)
