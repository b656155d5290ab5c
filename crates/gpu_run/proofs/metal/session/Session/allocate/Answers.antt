use Rattle.std.proofs.Common.{◌≡◌, Some, None, Err, refl, ap, subst}
use Rattle.std.specs.Prelude.{nat_eq}
use Rattle.std.specs.Map.{lookup}
use Rattle.gpu_values.specs.Refusal.{refusal_of, host_out_of_memory}
use Rattle.gpu_pool.specs.Allocation.{AreDistinct}
use Rattle.gpu_metal.specs.Live.{IsLive}
use Rattle.gpu_metal.specs.State.{model_of}
use Rattle.gpu_run.specs.Bindings.{bindings_of}
use Rattle.gpu_run.proofs.Binding.{some_bound, none_bound, same_bindings, bound_after}
use Rattle.gpu_run.proofs.Owning.{own_bound}
use Rattle.gpu_run.specs.MetalDescribe.{described, Describes}
use Rattle.gpu_run.specs.MetalReply as replies
use Rattle.gpu_run.specs.Shown.{shown_of}
use Rattle.gpu_run.specs.MetalCommand.{Alloc, Under}
use Rattle.gpu_run.specs.MetalServed.{SessionValue, session_of, IsAnswered}
use Rattle.gpu_run.proofs.MetalServing.{quiet, short, serves_at, distinct_sym, answered_quietly}
use Rattle.gpu_run.proofs.MetalAllocating.{allocated, not_allocated, not_described}
use Rattle.gpu_run.proofs.metal.session.Session.allocate.Goals as goal

pub returns-then-contains_key : goal.returns-then-contains_key
returns-then-contains_key g c =
    let V = g.D.MetalDevice in
    let s : SessionValue g.row.D.Denot = record { allocator = c.self.inside.allocator; bound = c.self.inside.bound.entries } in
    let a = some_bound (lookup (nat_eq c.args.key) s.bound) c.contains_key.result c.contains_key.ensures c.if-contains_key.true in
    subst (λ x. IsAnswered V (Under c.args.key (Alloc c.args.wanted c.args.name.now)) replies.Busy x x) c.self.view_is
    (answered_quietly V s.allocator s.bound s.bound (Under c.args.key (Alloc c.args.wanted c.args.name.now)) replies.Busy quiet refl
    (serves_at (V.properties s.allocator.first) (session_of V s) (session_of V s) c.args.key (Alloc c.args.wanted c.args.name.now) quiet replies.Busy (Some a.0) a.1 (refl, (refl, refl))))

pub returns-then-is_err : goal.returns-then-is_err
returns-then-is_err g c =
    let V = g.D.MetalDevice in
    let allocator = c.self.inside.allocator in
    let bound = c.self.inside.bound.entries in
    let after = c.reserve.new.self.entries in
    let s : SessionValue g.row.D.Denot = record { allocator = allocator; bound = bound } in
    let new : SessionValue g.row.D.Denot = record { allocator = allocator; bound = after } in
    let none = none_bound (lookup (nat_eq c.args.key) bound) c.contains_key.result c.contains_key.ensures c.if-contains_key.false in
    let reply = replies.Error host_out_of_memory in
    let same : session_of V new ≡ session_of V s =
    ap (λ b. record { bound = b; model = model_of V allocator; refused = V.refused allocator.device }) (same_bindings bound after c.reserve.ensures.entries.2) in
    subst (λ x. IsAnswered V (Under c.args.key (Alloc c.args.wanted c.args.name.now)) reply x new) c.self.view_is
    (answered_quietly V allocator bound after (Under c.args.key (Alloc c.args.wanted c.args.name.now)) reply short refl
    (serves_at (V.properties allocator.first) (session_of V s) (session_of V new) c.args.key (Alloc c.args.wanted c.args.name.now) short reply None none (refl, (refl, same))))

pub returns-in-Err : goal.returns-in-Err
returns-in-Err g c =
    let V = g.D.MetalDevice in
    let allocator = c.self.inside.allocator in
    let bound = c.self.inside.bound.entries in
    let after = c.reserve.new.self.entries in
    let new : SessionValue g.row.D.Denot = record { allocator = allocator; bound = after } in
    let none = none_bound (lookup (nat_eq c.args.key) bound) c.contains_key.result c.contains_key.ensures c.if-contains_key.false in
    let why = refusal_of c.in-Err.error in
    let is : described (V.properties allocator.device) c.args.wanted ≡ Err why =
    subst (λ d. described (V.properties d) c.args.wanted ≡ Err why) c.device.ensures.lent c.in-Err.ensures in
    subst (λ x. IsAnswered V (Under c.args.key (Alloc c.args.wanted c.args.name.now)) (replies.Error why) x new) c.self.view_is
    (not_described V allocator bound after c.args.key c.args.wanted c.args.name.now why is c.device.ensures.constant none (same_bindings bound after c.reserve.ensures.entries.2))

pub invariant_of-self-in-Ok-allocate : goal.invariant_of-self-in-Ok-allocate
invariant_of-self-in-Ok-allocate g c =
    let bound = c.self.inside.bound.entries in
    let mid = c.reserve.new.self.entries in
    let after = c.bind.new.bound.entries in
    own_bound (IsLive c.self.inside.allocator.slots) (IsLive c.allocate.new.self.slots) AreDistinct distinct_sym (bindings_of bound) c.self.invariant (bindings_of after) c.args.key
    c.in-Ok-allocate.allocation (bound_after bound mid after c.args.key (Some c.in-Ok-allocate.allocation) c.reserve.ensures.entries.2 c.bind.ensures)
    c.allocate.ensures.keeps c.in-Ok-allocate.ensures.gives.0 c.in-Ok-allocate.ensures.gives.1

pub returns-in-Err-allocate : goal.returns-in-Err-allocate
returns-in-Err-allocate g c =
    let V = g.D.MetalDevice in
    let s : SessionValue g.row.D.Denot = record { allocator = c.self.inside.allocator; bound = c.self.inside.bound.entries } in
    let new : SessionValue g.row.D.Denot = record { allocator = c.allocate.new.self; bound = c.reserve.new.self.entries } in
    let none = none_bound (lookup (nat_eq c.args.key) s.bound) c.contains_key.result c.contains_key.ensures c.if-contains_key.false in
    let describes = subst (λ d. Describes (described (V.properties d) c.args.wanted) c.args.name.now c.in-Ok.desc) c.device.ensures.lent c.in-Ok.ensures in
    subst (λ x. IsAnswered V (Under c.args.key (Alloc c.args.wanted c.args.name.now)) (replies.Error (refusal_of c.in-Err-allocate.error)) x new) c.self.view_is
    (not_allocated V g.met.D.MetalDevice.refused_is s new c.args.key c.args.wanted c.args.name.now c.in-Ok.desc describes c.device.ensures.constant none
    (c.allocate.ensures.constant.0, c.allocate.ensures.constant.1) c.in-Err-allocate.error (same_bindings s.bound new.bound c.reserve.ensures.entries.2) c.in-Err-allocate.ensures.step)

pub returns-in-Ok-allocate : goal.returns-in-Ok-allocate
returns-in-Ok-allocate g c =
    let V = g.D.MetalDevice in
    let s : SessionValue g.row.D.Denot = record { allocator = c.self.inside.allocator; bound = c.self.inside.bound.entries } in
    let new : SessionValue g.row.D.Denot = record { allocator = c.allocate.new.self; bound = c.bind.new.bound.entries } in
    let none = none_bound (lookup (nat_eq c.args.key) s.bound) c.contains_key.result c.contains_key.ensures c.if-contains_key.false in
    let describes = subst (λ d. Describes (described (V.properties d) c.args.wanted) c.args.name.now c.in-Ok.desc) c.device.ensures.lent c.in-Ok.ensures in
    let is = bound_after s.bound c.reserve.new.self.entries new.bound c.args.key (Some c.in-Ok-allocate.allocation) c.reserve.ensures.entries.2 c.bind.ensures in
    subst (λ x. IsAnswered V (Under c.args.key (Alloc c.args.wanted c.args.name.now)) (replies.Allocated (shown_of c.told-given.result)) x new) c.self.view_is
    (allocated V g.met.D.MetalDevice.refused_is s new c.args.key c.args.wanted c.args.name.now c.in-Ok.desc describes c.device.ensures.constant none
    (c.allocate.ensures.constant.0, c.allocate.ensures.constant.1) c.in-Ok-allocate.allocation (replies.Allocated (shown_of c.told-given.result)) is c.in-Ok-allocate.ensures.step (ap replies.Allocated c.told-given.ensures))
