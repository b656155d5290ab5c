use Rattle.std.proofs.Common.{◌≡◌, Some, None, refl, ap, subst}
use Rattle.std.specs.Prelude.{nat_eq}
use Rattle.std.specs.Map.{lookup}
use Rattle.gpu_values.specs.Refusal.{refusal_of, host_out_of_memory}
use Rattle.gpu_d3d12.specs.State.{basis_of, model_of}
use Rattle.gpu_run.specs.Bindings.{bindings_of}
use Rattle.gpu_run.proofs.Binding.{some_bound, none_bound, same_bindings, bound_after}
use Rattle.gpu_run.specs.D3D12Command.{Create, UnderResource}
use Rattle.gpu_run.specs.D3D12Reply as replies
use Rattle.gpu_run.specs.D3D12Reply.{shown_made}
use Rattle.gpu_run.specs.D3D12Served.{SessionValue, session_of, IsAnswered}
use Rattle.gpu_run.proofs.D3D12Creating.{live_made, created, not_created}
use Rattle.gpu_run.proofs.D3D12Growing.{create_grows, create_there}
use Rattle.gpu_run.proofs.D3D12Owning.{owns_still, owns_created}
use Rattle.gpu_run.proofs.D3D12Serving.{quiet, short, serves_resource_at, answered_quietly}
use Rattle.gpu_run.proofs.d3d12.session.Session.create.Goals as goal

pub returns-then-contains_key : goal.returns-then-contains_key
returns-then-contains_key g c = λ w asks.
    let V = g.D.D3D12Device in
    let s : SessionValue g.row.D.Denot = record { allocator = c.self.inside.allocator; bound = c.self.inside.bound.entries; resources = c.self.inside.resources.entries } in
    let r = some_bound (lookup (nat_eq c.args.key) s.resources) c.contains_key.result c.contains_key.ensures c.if-contains_key.true in
    subst (λ x. IsAnswered V (UnderResource c.args.key (Create w)) replies.Busy x x) c.self.view_is
    (answered_quietly V s s (UnderResource c.args.key (Create w)) replies.Busy quiet refl refl
    (serves_resource_at (basis_of V s.allocator) (session_of V s) (session_of V s) c.args.key (Create w) quiet replies.Busy (Some r.0) r.1 (refl, (refl, refl))) refl)

pub returns-then-is_err : goal.returns-then-is_err
returns-then-is_err g c = λ w asks.
    let V = g.D.D3D12Device in
    let s : SessionValue g.row.D.Denot = record { allocator = c.self.inside.allocator; bound = c.self.inside.bound.entries; resources = c.self.inside.resources.entries } in
    let new : SessionValue g.row.D.Denot = record { allocator = c.self.inside.allocator; bound = c.self.inside.bound.entries; resources = c.reserve.new.self.entries } in
    let none = none_bound (lookup (nat_eq c.args.key) s.resources) c.contains_key.result c.contains_key.ensures c.if-contains_key.false in
    let reply = replies.Error host_out_of_memory in
    let same : session_of V new ≡ session_of V s =
    ap (λ b. record { bound = bindings_of s.bound; resources = b; model = model_of V s.allocator; refused = (session_of V s).refused }) (same_bindings s.resources new.resources c.reserve.ensures.entries.2) in
    subst (λ x. IsAnswered V (UnderResource c.args.key (Create w)) reply x new) c.self.view_is
    (answered_quietly V s new (UnderResource c.args.key (Create w)) reply short refl refl
    (serves_resource_at (basis_of V s.allocator) (session_of V s) (session_of V new) c.args.key (Create w) short reply None none (refl, (refl, same))) refl)

pub invariant_of-self-in-Err : goal.invariant_of-self-in-Err
invariant_of-self-in-Err g c =
    let V = g.D.D3D12Device in
    let s : SessionValue g.row.D.Denot = record { allocator = c.self.inside.allocator; bound = c.self.inside.bound.entries; resources = c.self.inside.resources.entries } in
    let new : SessionValue g.row.D.Denot = record { allocator = c.create_resource.new.self; bound = c.self.inside.bound.entries; resources = c.reserve.new.self.entries } in
    let step = c.create_resource.ensures.step in
    let grows = create_grows (basis_of V s.allocator) c.args.desc.now step.step.environment step.reply (model_of V s.allocator) (model_of V new.allocator) step.step.step in
    owns_still (session_of V s) c.self.invariant (session_of V new) refl (same_bindings s.resources new.resources c.reserve.ensures.entries.2)
    (record { live = c.create_resource.ensures.keeps; beside = grows.beside; records = grows.records })

pub invariant_of-self-in-Ok : goal.invariant_of-self-in-Ok
invariant_of-self-in-Ok g c =
    let V = g.D.D3D12Device in
    let s : SessionValue g.row.D.Denot = record { allocator = c.self.inside.allocator; bound = c.self.inside.bound.entries; resources = c.self.inside.resources.entries } in
    let new : SessionValue g.row.D.Denot = record { allocator = c.create_resource.new.self; bound = c.self.inside.bound.entries; resources = c.bind.new.bound.entries } in
    let r = c.in-Ok.resource in
    let step = c.in-Ok.ensures.step in
    let grows = create_grows (basis_of V s.allocator) c.args.desc.now step.step.environment step.reply (model_of V s.allocator) (model_of V new.allocator) step.step.step in
    let there = create_there (basis_of V s.allocator) c.args.desc.now step.step.environment step.reply (model_of V s.allocator) (model_of V new.allocator) r step.step.step step.replies in
    let kept = live_made (model_of V s.allocator) (model_of V new.allocator) r r.allocation refl c.in-Ok.ensures.gives (λ none. there.kept none c.allocations_are_apart.ensures.lists) in
    owns_created (session_of V s) c.self.invariant (session_of V new) c.args.key r
    (bound_after s.resources c.reserve.new.self.entries new.resources c.args.key (Some r) c.reserve.ensures.entries.2 c.bind.ensures) refl
    (record { live = c.create_resource.ensures.keeps; beside = grows.beside; records = grows.records })
    (record { kept = kept; held = there.held }) c.in-Ok.ensures.fresh c.in-Ok.ensures.gives

pub returns-in-Err : goal.returns-in-Err
returns-in-Err g c = λ w asks.
    let V = g.D.D3D12Device in
    let s : SessionValue g.row.D.Denot = record { allocator = c.self.inside.allocator; bound = c.self.inside.bound.entries; resources = c.self.inside.resources.entries } in
    let new : SessionValue g.row.D.Denot = record { allocator = c.create_resource.new.self; bound = c.self.inside.bound.entries; resources = c.reserve.new.self.entries } in
    let none = none_bound (lookup (nat_eq c.args.key) s.resources) c.contains_key.result c.contains_key.ensures c.if-contains_key.false in
    subst (λ x. IsAnswered V (UnderResource c.args.key (Create w)) (replies.Error (refusal_of c.in-Err.error)) x new) c.self.view_is
    (not_created V g.met.D.D3D12Device.refused_is s new c.args.key w c.args.desc.now asks none c.create_resource.ensures.constant.0 c.create_resource.ensures.constant.1 refl
    c.in-Err.error (same_bindings s.resources new.resources c.reserve.ensures.entries.2) c.in-Err.ensures.step c.in-Err.ensures.journal)

pub returns-in-Ok : goal.returns-in-Ok
returns-in-Ok g c = λ w asks.
    let V = g.D.D3D12Device in
    let s : SessionValue g.row.D.Denot = record { allocator = c.self.inside.allocator; bound = c.self.inside.bound.entries; resources = c.self.inside.resources.entries } in
    let new : SessionValue g.row.D.Denot = record { allocator = c.create_resource.new.self; bound = c.self.inside.bound.entries; resources = c.bind.new.bound.entries } in
    let none = none_bound (lookup (nat_eq c.args.key) s.resources) c.contains_key.result c.contains_key.ensures c.if-contains_key.false in
    let r = c.in-Ok.resource in
    let made = c.made-made.ensures in
    let is = bound_after s.resources c.reserve.new.self.entries new.resources c.args.key (Some r) c.reserve.ensures.entries.2 c.bind.ensures in
    subst (λ x. IsAnswered V (UnderResource c.args.key (Create w)) (replies.Made (shown_made c.made-made.result)) x new) c.self.view_is
    (created V g.met.D.D3D12Device.refused_is s new c.args.key w c.args.desc.now asks none c.create_resource.ensures.constant.0 c.create_resource.ensures.constant.1 refl
    r (shown_made c.made-made.result) (λ i. record { number = (made.number i).0; size = made.size i; piece = made.piece i }) is c.in-Ok.ensures.step c.in-Ok.ensures.journal)
