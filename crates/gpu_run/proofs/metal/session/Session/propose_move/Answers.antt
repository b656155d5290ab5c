use Rattle.std.proofs.Common.{◌≡◌, ◌∙◌, Some, None, Ok, refl, ap, sym, subst}
use Rattle.std.specs.Prelude.{nat_eq}
use Rattle.std.specs.Map.{lookup}
use Rattle.gpu_values.specs.Refusal.{refusal_of, host_out_of_memory}
use Rattle.gpu_pool.specs.Allocation.{AreDistinct, IsSecondPlace}
use Rattle.gpu_metal.specs.Blocks.{is_same_heap}
use Rattle.gpu_metal.specs.Live.{IsLive}
use Rattle.gpu_metal.specs.State.{State, model_of}
use Rattle.gpu_metal.specs.Step.{IsMoveStep}
use Rattle.gpu_run.specs.Bindings.{bindings_of}
use Rattle.gpu_run.proofs.Binding.{some_bound, none_bound, same_bindings, bound_after}
use Rattle.gpu_run.proofs.Owning.{own_bound}
use Rattle.gpu_run.specs.MetalReply as replies
use Rattle.gpu_run.specs.Shown.{shown_of}
use Rattle.gpu_run.specs.MetalCommand.{Move, Under}
use Rattle.gpu_run.specs.MetalSession.{ServesMove}
use Rattle.gpu_run.specs.MetalServed.{SessionValue, session_of, IsAnswered}
use Rattle.gpu_run.proofs.MetalServing.{quiet, short, serves_at, distinct_sym, answered_quietly}
use Rattle.gpu_run.proofs.MetalMoving.{placed, no_place, not_proposed}
use Rattle.gpu_run.proofs.metal.session.Session.propose_move.Goals as goal

pub returns-then-not-contains_key : goal.returns-then-not-contains_key
returns-then-not-contains_key g c =
    let V = g.D.MetalDevice in
    let s : SessionValue g.row.D.Denot = record { allocator = c.self.inside.allocator; bound = c.self.inside.bound.entries } in
    let none = none_bound (lookup (nat_eq c.args.key) s.bound) c.contains_key.result c.contains_key.ensures c.if-not-contains_key.true in
    λ is name asks. subst (λ x. IsAnswered V (Under c.args.key (Move c.args.to is name)) replies.Unbound x x) c.self.view_is
    (answered_quietly V s.allocator s.bound s.bound (Under c.args.key (Move c.args.to is name)) replies.Unbound quiet refl
    (serves_at (V.properties s.allocator.first) (session_of V s) (session_of V s) c.args.key (Move c.args.to is name) quiet replies.Unbound None none (refl, (refl, refl))))

pub returns-then-contains_key : goal.returns-then-contains_key
returns-then-contains_key g c =
    let V = g.D.MetalDevice in
    let s : SessionValue g.row.D.Denot = record { allocator = c.self.inside.allocator; bound = c.self.inside.bound.entries } in
    let a = some_bound (lookup (nat_eq c.args.key) s.bound) c.contains_key.result c.contains_key.ensures c.if-not-contains_key.false in
    let b = some_bound (lookup (nat_eq c.args.to) s.bound) c.contains_key-2.result c.contains_key-2.ensures c.if-contains_key.true in
    λ is name asks. subst (λ x. IsAnswered V (Under c.args.key (Move c.args.to is name)) replies.Busy x x) c.self.view_is
    (answered_quietly V s.allocator s.bound s.bound (Under c.args.key (Move c.args.to is name)) replies.Busy quiet refl
    (serves_at (V.properties s.allocator.first) (session_of V s) (session_of V s) c.args.key (Move c.args.to is name) quiet replies.Busy (Some a.0) a.1
    (subst (λ f. ServesMove c.args.to f a.0 is name quiet replies.Busy (session_of V s) (session_of V s)) (sym b.1) (refl, (refl, refl)))))

pub returns-then-is_err : goal.returns-then-is_err
returns-then-is_err g c =
    let V = g.D.MetalDevice in
    let allocator = c.self.inside.allocator in
    let bound = c.self.inside.bound.entries in
    let after = c.reserve.new.self.entries in
    let s : SessionValue g.row.D.Denot = record { allocator = allocator; bound = bound } in
    let new : SessionValue g.row.D.Denot = record { allocator = allocator; bound = after } in
    let a = some_bound (lookup (nat_eq c.args.key) bound) c.contains_key.result c.contains_key.ensures c.if-not-contains_key.false in
    let none = none_bound (lookup (nat_eq c.args.to) bound) c.contains_key-2.result c.contains_key-2.ensures c.if-contains_key.false in
    let reply = replies.Error host_out_of_memory in
    let same : session_of V new ≡ session_of V s =
    ap (λ b. record { bound = b; model = model_of V allocator; refused = V.refused allocator.device }) (same_bindings bound after c.reserve.ensures.entries.2) in
    λ is name asks. subst (λ x. IsAnswered V (Under c.args.key (Move c.args.to is name)) reply x new) c.self.view_is
    (answered_quietly V allocator bound after (Under c.args.key (Move c.args.to is name)) reply short refl
    (serves_at (V.properties allocator.first) (session_of V s) (session_of V new) c.args.key (Move c.args.to is name) short reply (Some a.0) a.1
    (subst (λ f. ServesMove c.args.to f a.0 is name short reply (session_of V s) (session_of V new)) (sym none) (refl, (refl, same)))))

pub invariant_of-self-in-Ok-Some : goal.invariant_of-self-in-Ok-Some
invariant_of-self-in-Ok-Some g c =
    let bound = c.self.inside.bound.entries in
    let after = c.bind.new.bound.entries in
    let to = c.in-Ok-Some.second in
    let gives : IsSecondPlace is_same_heap c.args.desc.now.alignment c.self.inside.allocator.slots c.in-Some.from.now to c.propose_move.new.self.slots =
    rw c.in-Ok-Some.field-0-is at c.in-Ok-Some.ensures.gives in
    own_bound (IsLive c.self.inside.allocator.slots) (IsLive c.propose_move.new.self.slots) AreDistinct distinct_sym (bindings_of bound) c.self.invariant (bindings_of after) c.args.to to
    (bound_after bound c.reserve.new.self.entries after c.args.to (Some to) c.reserve.ensures.entries.2 c.bind.ensures)
    c.propose_move.ensures.keeps gives.live.0 gives.live.1

pub returns-in-Err : goal.returns-in-Err
returns-in-Err g c =
    let V = g.D.MetalDevice in
    let s : SessionValue g.row.D.Denot = record { allocator = c.self.inside.allocator; bound = c.self.inside.bound.entries } in
    let new : SessionValue g.row.D.Denot = record { allocator = c.propose_move.new.self; bound = c.reserve.new.self.entries } in
    let found : bindings_of s.bound c.args.key ≡ Some c.in-Some.from.now = sym (c.in-Some.ensures.value ∙ c.reserve.ensures.entries.2 c.args.key) in
    let none = none_bound (lookup (nat_eq c.args.to) s.bound) c.contains_key-2.result c.contains_key-2.ensures c.if-contains_key.false in
    let others = c.propose_move.ensures.others in
    λ is name asks. subst (λ x. IsAnswered V (Under c.args.key (Move c.args.to is name)) (replies.Error (refusal_of c.in-Err.error)) x new) c.self.view_is
    (not_proposed V g.met.D.MetalDevice.refused_is s new c.args.key c.args.to is name c.args.desc.now asks c.in-Some.from.now found none
    (ap (λ (t : State g.row.D.Denot). t.first) others, ap (λ (t : State g.row.D.Denot). t.setup) others)
    c.in-Err.error (same_bindings s.bound new.bound c.reserve.ensures.entries.2) c.in-Err.ensures.step)

pub returns-in-Ok-None : goal.returns-in-Ok-None
returns-in-Ok-None g c =
    let V = g.D.MetalDevice in
    let s : SessionValue g.row.D.Denot = record { allocator = c.self.inside.allocator; bound = c.self.inside.bound.entries } in
    let new : SessionValue g.row.D.Denot = record { allocator = c.propose_move.new.self; bound = c.reserve.new.self.entries } in
    let found : bindings_of s.bound c.args.key ≡ Some c.in-Some.from.now = sym (c.in-Some.ensures.value ∙ c.reserve.ensures.entries.2 c.args.key) in
    let none = none_bound (lookup (nat_eq c.args.to) s.bound) c.contains_key-2.result c.contains_key-2.ensures c.if-contains_key.false in
    let others = c.propose_move.ensures.others in
    let step : IsMoveStep V c.in-Some.from.now c.args.desc.now (Ok None) s.allocator new.allocator = rw c.in-Ok-None.field-0-is at c.in-Ok-None.ensures.step in
    λ is name asks. subst (λ x. IsAnswered V (Under c.args.key (Move c.args.to is name)) replies.NoPlace x new) c.self.view_is
    (no_place V g.met.D.MetalDevice.refused_is s new c.args.key c.args.to is name c.args.desc.now asks c.in-Some.from.now found none
    (ap (λ (t : State g.row.D.Denot). t.first) others, ap (λ (t : State g.row.D.Denot). t.setup) others)
    (same_bindings s.bound new.bound c.reserve.ensures.entries.2) step)

pub returns-in-Ok-Some : goal.returns-in-Ok-Some
returns-in-Ok-Some g c =
    let V = g.D.MetalDevice in
    let s : SessionValue g.row.D.Denot = record { allocator = c.self.inside.allocator; bound = c.self.inside.bound.entries } in
    let new : SessionValue g.row.D.Denot = record { allocator = c.propose_move.new.self; bound = c.bind.new.bound.entries } in
    let found : bindings_of s.bound c.args.key ≡ Some c.in-Some.from.now = sym (c.in-Some.ensures.value ∙ c.reserve.ensures.entries.2 c.args.key) in
    let none = none_bound (lookup (nat_eq c.args.to) s.bound) c.contains_key-2.result c.contains_key-2.ensures c.if-contains_key.false in
    let others = c.propose_move.ensures.others in
    let to = c.in-Ok-Some.second in
    let step : IsMoveStep V c.in-Some.from.now c.args.desc.now (Ok (Some to)) s.allocator new.allocator = rw c.in-Ok-Some.field-0-is at c.in-Ok-Some.ensures.step in
    let bound = bound_after s.bound c.reserve.new.self.entries new.bound c.args.to (Some to) c.reserve.ensures.entries.2 c.bind.ensures in
    λ is name asks. subst (λ x. IsAnswered V (Under c.args.key (Move c.args.to is name)) (replies.Allocated (shown_of c.told-given.result)) x new) c.self.view_is
    (placed V g.met.D.MetalDevice.refused_is s new c.args.key c.args.to is name c.args.desc.now asks c.in-Some.from.now found none
    (ap (λ (t : State g.row.D.Denot). t.first) others, ap (λ (t : State g.row.D.Denot). t.setup) others)
    to (replies.Allocated (shown_of c.told-given.result)) bound step (ap replies.Allocated c.told-given.ensures))
