use Rattle.std.proofs.Common.{◌≡◌, Some, None, refl, ap, subst}
use Rattle.std.specs.Prelude.{nat_eq}
use Rattle.std.specs.Map.{lookup}
use Rattle.gpu_values.specs.Refusal.{refusal_of, host_out_of_memory}
use Rattle.gpu_d3d12.specs.State.{basis_of, model_of}
use Rattle.gpu_d3d12.specs.Reply as module_replies
use Rattle.gpu_run.specs.Bindings.{bindings_of}
use Rattle.gpu_run.proofs.Binding.{some_bound, none_bound, same_bindings, bound_after}
use Rattle.gpu_run.specs.D3D12Command.{Alloc, Under}
use Rattle.gpu_run.specs.D3D12Reply as replies
use Rattle.gpu_run.specs.Shown.{shown_of}
use Rattle.gpu_run.specs.D3D12Served.{SessionValue, session_of, IsAnswered}
use Rattle.gpu_run.proofs.D3D12Allocating.{allocated, not_allocated}
use Rattle.gpu_run.proofs.D3D12Counting.{allocate_leaves}
use Rattle.gpu_run.proofs.D3D12Owning.{more_by, owns_still, owns_allocated}
use Rattle.gpu_run.proofs.D3D12Serving.{quiet, short, serves_at, answered_quietly}
use Rattle.gpu_run.proofs.d3d12.session.Session.allocate.Goals as goal

pub returns-then-contains_key : goal.returns-then-contains_key
returns-then-contains_key g c = λ w asks.
    let V = g.D.D3D12Device in
    let s : SessionValue g.row.D.Denot = record { allocator = c.self.inside.allocator; bound = c.self.inside.bound.entries; resources = c.self.inside.resources.entries } in
    let a = some_bound (lookup (nat_eq c.args.key) s.bound) c.contains_key.result c.contains_key.ensures c.if-contains_key.true in
    subst (λ x. IsAnswered V (Under c.args.key (Alloc w)) replies.Busy x x) c.self.view_is
    (answered_quietly V s s (Under c.args.key (Alloc w)) replies.Busy quiet refl refl
    (serves_at (basis_of V s.allocator) (session_of V s) (session_of V s) c.args.key (Alloc w) quiet replies.Busy (Some a.0) a.1 (refl, (refl, refl))) refl)

pub returns-then-is_err : goal.returns-then-is_err
returns-then-is_err g c = λ w asks.
    let V = g.D.D3D12Device in
    let s : SessionValue g.row.D.Denot = record { allocator = c.self.inside.allocator; bound = c.self.inside.bound.entries; resources = c.self.inside.resources.entries } in
    let new : SessionValue g.row.D.Denot = record { allocator = c.self.inside.allocator; bound = c.reserve.new.self.entries; resources = c.self.inside.resources.entries } in
    let none = none_bound (lookup (nat_eq c.args.key) s.bound) c.contains_key.result c.contains_key.ensures c.if-contains_key.false in
    let reply = replies.Error host_out_of_memory in
    let same : session_of V new ≡ session_of V s =
    ap (λ b. record { bound = b; resources = bindings_of s.resources; model = model_of V s.allocator; refused = (session_of V s).refused }) (same_bindings s.bound new.bound c.reserve.ensures.entries.2) in
    subst (λ x. IsAnswered V (Under c.args.key (Alloc w)) reply x new) c.self.view_is
    (answered_quietly V s new (Under c.args.key (Alloc w)) reply short refl refl
    (serves_at (basis_of V s.allocator) (session_of V s) (session_of V new) c.args.key (Alloc w) short reply None none (refl, (refl, same))) refl)

pub invariant_of-self-in-Err : goal.invariant_of-self-in-Err
invariant_of-self-in-Err g c =
    let V = g.D.D3D12Device in
    let s : SessionValue g.row.D.Denot = record { allocator = c.self.inside.allocator; bound = c.self.inside.bound.entries; resources = c.self.inside.resources.entries } in
    let new : SessionValue g.row.D.Denot = record { allocator = c.allocate.new.self; bound = c.reserve.new.self.entries; resources = c.self.inside.resources.entries } in
    let step = c.allocate.ensures.step in
    let leaves = allocate_leaves (basis_of V s.allocator) c.args.desc.now step.step.environment (module_replies.Pool step.reply) (model_of V s.allocator) (model_of V new.allocator) step.step.step in
    owns_still (session_of V s) c.self.invariant (session_of V new) (same_bindings s.bound new.bound c.reserve.ensures.entries.2) refl
    (more_by (model_of V s.allocator) (model_of V new.allocator) c.allocate.ensures.keeps leaves.beside leaves.committed)

pub invariant_of-self-in-Ok : goal.invariant_of-self-in-Ok
invariant_of-self-in-Ok g c =
    let V = g.D.D3D12Device in
    let s : SessionValue g.row.D.Denot = record { allocator = c.self.inside.allocator; bound = c.self.inside.bound.entries; resources = c.self.inside.resources.entries } in
    let new : SessionValue g.row.D.Denot = record { allocator = c.allocate.new.self; bound = c.bind.new.bound.entries; resources = c.self.inside.resources.entries } in
    let a = c.in-Ok.allocation in
    let step = c.allocate.ensures.step in
    let leaves = allocate_leaves (basis_of V s.allocator) c.args.desc.now step.step.environment (module_replies.Pool step.reply) (model_of V s.allocator) (model_of V new.allocator) step.step.step in
    owns_allocated (session_of V s) c.self.invariant (session_of V new) c.args.key a
    (bound_after s.bound c.reserve.new.self.entries new.bound c.args.key (Some a) c.reserve.ensures.entries.2 c.bind.ensures) refl
    (more_by (model_of V s.allocator) (model_of V new.allocator) c.allocate.ensures.keeps leaves.beside leaves.committed) c.in-Ok.ensures.gives.0 c.in-Ok.ensures.gives.1

pub returns-in-Err : goal.returns-in-Err
returns-in-Err g c = λ w asks.
    let V = g.D.D3D12Device in
    let s : SessionValue g.row.D.Denot = record { allocator = c.self.inside.allocator; bound = c.self.inside.bound.entries; resources = c.self.inside.resources.entries } in
    let new : SessionValue g.row.D.Denot = record { allocator = c.allocate.new.self; bound = c.reserve.new.self.entries; resources = c.self.inside.resources.entries } in
    let none = none_bound (lookup (nat_eq c.args.key) s.bound) c.contains_key.result c.contains_key.ensures c.if-contains_key.false in
    let constant = c.allocate.ensures.constant in
    subst (λ x. IsAnswered V (Under c.args.key (Alloc w)) (replies.Error (refusal_of c.in-Err.error)) x new) c.self.view_is
    (not_allocated V g.met.D.D3D12Device.refused_is s new c.args.key constant.0 constant.1 refl c.allocate.ensures.journal w c.args.desc.now asks none c.in-Err.error
    (same_bindings s.bound new.bound c.reserve.ensures.entries.2) c.in-Err.ensures.step)

pub returns-in-Ok : goal.returns-in-Ok
returns-in-Ok g c = λ w asks.
    let V = g.D.D3D12Device in
    let s : SessionValue g.row.D.Denot = record { allocator = c.self.inside.allocator; bound = c.self.inside.bound.entries; resources = c.self.inside.resources.entries } in
    let new : SessionValue g.row.D.Denot = record { allocator = c.allocate.new.self; bound = c.bind.new.bound.entries; resources = c.self.inside.resources.entries } in
    let none = none_bound (lookup (nat_eq c.args.key) s.bound) c.contains_key.result c.contains_key.ensures c.if-contains_key.false in
    let constant = c.allocate.ensures.constant in
    let a = c.in-Ok.allocation in
    let is = bound_after s.bound c.reserve.new.self.entries new.bound c.args.key (Some a) c.reserve.ensures.entries.2 c.bind.ensures in
    subst (λ x. IsAnswered V (Under c.args.key (Alloc w)) (replies.Allocated (shown_of c.told-given.result)) x new) c.self.view_is
    (allocated V g.met.D.D3D12Device.refused_is s new c.args.key constant.0 constant.1 refl c.allocate.ensures.journal w c.args.desc.now asks none a
    (replies.Allocated (shown_of c.told-given.result)) is c.in-Ok.ensures.step (ap replies.Allocated c.told-given.ensures))
