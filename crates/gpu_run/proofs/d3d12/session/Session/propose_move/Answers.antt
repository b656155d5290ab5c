use Rattle.std.proofs.Common.{◌≡◌, ◌∙◌, Some, None, Ok, refl, ap, sym, subst}
use Rattle.std.specs.Prelude.{nat_eq}
use Rattle.std.specs.Map.{lookup}
use Rattle.gpu_values.specs.Refusal.{refusal_of, host_out_of_memory}
use Rattle.gpu_pool.specs.Allocation.{IsSecondPlace}
use Rattle.gpu_d3d12.specs.Blocks.{is_same_heap}
use Rattle.gpu_d3d12.specs.Reply as module_replies
use Rattle.gpu_d3d12.specs.State.{State, basis_of, model_of}
use Rattle.gpu_d3d12.specs.Step.{IsMoveStep}
use Rattle.gpu_run.specs.Bindings.{bindings_of}
use Rattle.gpu_run.proofs.Binding.{some_bound, none_bound, same_bindings, bound_after}
use Rattle.gpu_run.specs.D3D12Reply as replies
use Rattle.gpu_run.specs.Shown.{shown_of}
use Rattle.gpu_run.specs.D3D12Command.{Move, Under}
use Rattle.gpu_run.specs.D3D12Session.{ServesMove}
use Rattle.gpu_run.specs.D3D12Served.{SessionValue, session_of, IsAnswered}
use Rattle.gpu_run.proofs.D3D12Serving.{quiet, short, serves_at, answered_quietly}
use Rattle.gpu_run.proofs.D3D12Counting.{move_leaves}
use Rattle.gpu_run.proofs.D3D12Owning.{more_by, owns_still, owns_allocated}
use Rattle.gpu_run.proofs.D3D12Moving.{placed, no_place, not_proposed}
use Rattle.gpu_run.proofs.d3d12.session.Session.propose_move.Goals as goal

pub returns-then-not-contains_key : goal.returns-then-not-contains_key
returns-then-not-contains_key g c =
    let V = g.D.D3D12Device in
    let s : SessionValue g.row.D.Denot = record { allocator = c.self.inside.allocator; bound = c.self.inside.bound.entries; resources = c.self.inside.resources.entries } in
    let none = none_bound (lookup (nat_eq c.args.key) s.bound) c.contains_key.result c.contains_key.ensures c.if-not-contains_key.true in
    λ w asks. subst (λ x. IsAnswered V (Under c.args.key (Move c.args.to w)) replies.Unbound x x) c.self.view_is
    (answered_quietly V s s (Under c.args.key (Move c.args.to w)) replies.Unbound quiet refl refl
    (serves_at (basis_of V s.allocator) (session_of V s) (session_of V s) c.args.key (Move c.args.to w) quiet replies.Unbound None none (refl, (refl, refl))) refl)

pub returns-then-contains_key : goal.returns-then-contains_key
returns-then-contains_key g c =
    let V = g.D.D3D12Device in
    let s : SessionValue g.row.D.Denot = record { allocator = c.self.inside.allocator; bound = c.self.inside.bound.entries; resources = c.self.inside.resources.entries } in
    let a = some_bound (lookup (nat_eq c.args.key) s.bound) c.contains_key.result c.contains_key.ensures c.if-not-contains_key.false in
    let b = some_bound (lookup (nat_eq c.args.to) s.bound) c.contains_key-2.result c.contains_key-2.ensures c.if-contains_key.true in
    λ w asks. subst (λ x. IsAnswered V (Under c.args.key (Move c.args.to w)) replies.Busy x x) c.self.view_is
    (answered_quietly V s s (Under c.args.key (Move c.args.to w)) replies.Busy quiet refl refl
    (serves_at (basis_of V s.allocator) (session_of V s) (session_of V s) c.args.key (Move c.args.to w) quiet replies.Busy (Some a.0) a.1
    (subst (λ f. ServesMove (basis_of V s.allocator) c.args.to f a.0 w quiet replies.Busy (session_of V s) (session_of V s)) (sym b.1) (refl, (refl, refl)))) refl)

pub returns-then-is_err : goal.returns-then-is_err
returns-then-is_err g c =
    let V = g.D.D3D12Device in
    let s : SessionValue g.row.D.Denot = record { allocator = c.self.inside.allocator; bound = c.self.inside.bound.entries; resources = c.self.inside.resources.entries } in
    let new : SessionValue g.row.D.Denot = record { allocator = c.self.inside.allocator; bound = c.reserve.new.self.entries; resources = c.self.inside.resources.entries } in
    let a = some_bound (lookup (nat_eq c.args.key) s.bound) c.contains_key.result c.contains_key.ensures c.if-not-contains_key.false in
    let none = none_bound (lookup (nat_eq c.args.to) s.bound) c.contains_key-2.result c.contains_key-2.ensures c.if-contains_key.false in
    let reply = replies.Error host_out_of_memory in
    let same : session_of V new ≡ session_of V s =
    ap (λ b. record { bound = b; resources = bindings_of s.resources; model = model_of V s.allocator; refused = (session_of V s).refused }) (same_bindings s.bound new.bound c.reserve.ensures.entries.2) in
    λ w asks. subst (λ x. IsAnswered V (Under c.args.key (Move c.args.to w)) reply x new) c.self.view_is
    (answered_quietly V s new (Under c.args.key (Move c.args.to w)) reply short refl refl
    (serves_at (basis_of V s.allocator) (session_of V s) (session_of V new) c.args.key (Move c.args.to w) short reply (Some a.0) a.1
    (subst (λ f. ServesMove (basis_of V s.allocator) c.args.to f a.0 w short reply (session_of V s) (session_of V new)) (sym none) (refl, (refl, same)))) refl)

pub invariant_of-self-in-Err : goal.invariant_of-self-in-Err
invariant_of-self-in-Err g c =
    let V = g.D.D3D12Device in
    let s : SessionValue g.row.D.Denot = record { allocator = c.self.inside.allocator; bound = c.self.inside.bound.entries; resources = c.self.inside.resources.entries } in
    let new : SessionValue g.row.D.Denot = record { allocator = c.propose_move.new.self; bound = c.reserve.new.self.entries; resources = c.self.inside.resources.entries } in
    let step = c.propose_move.ensures.step in
    let leaves = move_leaves (basis_of V s.allocator) c.in-Some.from.now c.args.desc.now step.step.environment (module_replies.Pool step.reply) (model_of V s.allocator) (model_of V new.allocator) step.step.step in
    owns_still (session_of V s) c.self.invariant (session_of V new) (same_bindings s.bound new.bound c.reserve.ensures.entries.2) refl
    (more_by (model_of V s.allocator) (model_of V new.allocator) c.propose_move.ensures.keeps leaves.beside leaves.committed)

pub invariant_of-self-in-Ok-None : goal.invariant_of-self-in-Ok-None
invariant_of-self-in-Ok-None g c =
    let V = g.D.D3D12Device in
    let s : SessionValue g.row.D.Denot = record { allocator = c.self.inside.allocator; bound = c.self.inside.bound.entries; resources = c.self.inside.resources.entries } in
    let new : SessionValue g.row.D.Denot = record { allocator = c.propose_move.new.self; bound = c.reserve.new.self.entries; resources = c.self.inside.resources.entries } in
    let step = c.propose_move.ensures.step in
    let leaves = move_leaves (basis_of V s.allocator) c.in-Some.from.now c.args.desc.now step.step.environment (module_replies.Pool step.reply) (model_of V s.allocator) (model_of V new.allocator) step.step.step in
    owns_still (session_of V s) c.self.invariant (session_of V new) (same_bindings s.bound new.bound c.reserve.ensures.entries.2) refl
    (more_by (model_of V s.allocator) (model_of V new.allocator) c.propose_move.ensures.keeps leaves.beside leaves.committed)

pub invariant_of-self-in-Ok-Some : goal.invariant_of-self-in-Ok-Some
invariant_of-self-in-Ok-Some g c =
    let V = g.D.D3D12Device in
    let s : SessionValue g.row.D.Denot = record { allocator = c.self.inside.allocator; bound = c.self.inside.bound.entries; resources = c.self.inside.resources.entries } in
    let new : SessionValue g.row.D.Denot = record { allocator = c.propose_move.new.self; bound = c.bind.new.bound.entries; resources = c.self.inside.resources.entries } in
    let to = c.in-Ok-Some.second in
    let gives : IsSecondPlace is_same_heap c.args.desc.now.alignment s.allocator.slots c.in-Some.from.now to new.allocator.slots = rw c.in-Ok-Some.field-0-is at c.in-Ok-Some.ensures.gives in
    let step = c.propose_move.ensures.step in
    let leaves = move_leaves (basis_of V s.allocator) c.in-Some.from.now c.args.desc.now step.step.environment (module_replies.Pool step.reply) (model_of V s.allocator) (model_of V new.allocator) step.step.step in
    owns_allocated (session_of V s) c.self.invariant (session_of V new) c.args.to to
    (bound_after s.bound c.reserve.new.self.entries new.bound c.args.to (Some to) c.reserve.ensures.entries.2 c.bind.ensures) refl
    (more_by (model_of V s.allocator) (model_of V new.allocator) c.propose_move.ensures.keeps leaves.beside leaves.committed) gives.live.0 gives.live.1

pub returns-in-Err : goal.returns-in-Err
returns-in-Err g c =
    let V = g.D.D3D12Device in
    let s : SessionValue g.row.D.Denot = record { allocator = c.self.inside.allocator; bound = c.self.inside.bound.entries; resources = c.self.inside.resources.entries } in
    let new : SessionValue g.row.D.Denot = record { allocator = c.propose_move.new.self; bound = c.reserve.new.self.entries; resources = c.self.inside.resources.entries } in
    let found : bindings_of s.bound c.args.key ≡ Some c.in-Some.from.now = sym (c.in-Some.ensures.value ∙ c.reserve.ensures.entries.2 c.args.key) in
    let none = none_bound (lookup (nat_eq c.args.to) s.bound) c.contains_key-2.result c.contains_key-2.ensures c.if-contains_key.false in
    let others = c.propose_move.ensures.others in
    λ w asks. subst (λ x. IsAnswered V (Under c.args.key (Move c.args.to w)) (replies.Error (refusal_of c.in-Err.error)) x new) c.self.view_is
    (not_proposed V g.met.D.D3D12Device.refused_is s new c.args.key c.args.to (ap (λ (t : State g.row.D.Denot). t.first) others) (ap (λ (t : State g.row.D.Denot). t.setup) others) refl
    (ap (λ (t : State g.row.D.Denot). t.journal) others) w c.args.desc.now asks c.in-Some.from.now found none
    c.in-Err.error (same_bindings s.bound new.bound c.reserve.ensures.entries.2) c.in-Err.ensures.step)

pub returns-in-Ok-None : goal.returns-in-Ok-None
returns-in-Ok-None g c =
    let V = g.D.D3D12Device in
    let s : SessionValue g.row.D.Denot = record { allocator = c.self.inside.allocator; bound = c.self.inside.bound.entries; resources = c.self.inside.resources.entries } in
    let new : SessionValue g.row.D.Denot = record { allocator = c.propose_move.new.self; bound = c.reserve.new.self.entries; resources = c.self.inside.resources.entries } in
    let step : IsMoveStep V c.in-Some.from.now c.args.desc.now (Ok None) s.allocator new.allocator = rw c.in-Ok-None.field-0-is at c.in-Ok-None.ensures.step in
    let found : bindings_of s.bound c.args.key ≡ Some c.in-Some.from.now = sym (c.in-Some.ensures.value ∙ c.reserve.ensures.entries.2 c.args.key) in
    let none = none_bound (lookup (nat_eq c.args.to) s.bound) c.contains_key-2.result c.contains_key-2.ensures c.if-contains_key.false in
    let others = c.propose_move.ensures.others in
    λ w asks. subst (λ x. IsAnswered V (Under c.args.key (Move c.args.to w)) replies.NoPlace x new) c.self.view_is
    (no_place V g.met.D.D3D12Device.refused_is s new c.args.key c.args.to (ap (λ (t : State g.row.D.Denot). t.first) others) (ap (λ (t : State g.row.D.Denot). t.setup) others) refl
    (ap (λ (t : State g.row.D.Denot). t.journal) others) w c.args.desc.now asks c.in-Some.from.now found none
    (same_bindings s.bound new.bound c.reserve.ensures.entries.2) step)

pub returns-in-Ok-Some : goal.returns-in-Ok-Some
returns-in-Ok-Some g c =
    let V = g.D.D3D12Device in
    let s : SessionValue g.row.D.Denot = record { allocator = c.self.inside.allocator; bound = c.self.inside.bound.entries; resources = c.self.inside.resources.entries } in
    let new : SessionValue g.row.D.Denot = record { allocator = c.propose_move.new.self; bound = c.bind.new.bound.entries; resources = c.self.inside.resources.entries } in
    let to = c.in-Ok-Some.second in
    let step : IsMoveStep V c.in-Some.from.now c.args.desc.now (Ok (Some to)) s.allocator new.allocator = rw c.in-Ok-Some.field-0-is at c.in-Ok-Some.ensures.step in
    let bound = bound_after s.bound c.reserve.new.self.entries new.bound c.args.to (Some to) c.reserve.ensures.entries.2 c.bind.ensures in
    let found : bindings_of s.bound c.args.key ≡ Some c.in-Some.from.now = sym (c.in-Some.ensures.value ∙ c.reserve.ensures.entries.2 c.args.key) in
    let none = none_bound (lookup (nat_eq c.args.to) s.bound) c.contains_key-2.result c.contains_key-2.ensures c.if-contains_key.false in
    let others = c.propose_move.ensures.others in
    λ w asks. subst (λ x. IsAnswered V (Under c.args.key (Move c.args.to w)) (replies.Allocated (shown_of c.told-given.result)) x new) c.self.view_is
    (placed V g.met.D.D3D12Device.refused_is s new c.args.key c.args.to (ap (λ (t : State g.row.D.Denot). t.first) others) (ap (λ (t : State g.row.D.Denot). t.setup) others) refl
    (ap (λ (t : State g.row.D.Denot). t.journal) others) w c.args.desc.now asks c.in-Some.from.now found none
    to (replies.Allocated (shown_of c.told-given.result)) bound step (ap replies.Allocated c.told-given.ensures))
