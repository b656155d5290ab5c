use Rattle.std.proofs.Common.{◌≡◌, ◌∙◌, Some, None, Ok, refl, ap, sym, subst}
use Rattle.std.specs.Prelude.{nat_eq}
use Rattle.std.specs.Map.{lookup}
use Rattle.gpu_values.specs.Refusal.{refusal_of, host_out_of_memory}
use Rattle.gpu_vulkan.specs.Move.{IsSecondPlace}
use Rattle.gpu_vulkan.specs.Step.{model_of, IsMoveStep}
use Rattle.gpu_vulkan.proofs.Untouched.{same_leaves}
use Rattle.gpu_run.specs.Bindings.{bindings_of}
use Rattle.gpu_run.specs.VulkanReply as replies
use Rattle.gpu_run.specs.VulkanCommand.{Move, Under}
use Rattle.gpu_run.specs.VulkanSession.{ServesMove}
use Rattle.gpu_run.specs.VulkanServed.{SessionValue, session_of, reply_of, IsCommandServed}
use Rattle.gpu_run.proofs.Binding.{some_bound, none_bound, same_bindings, bound_after}
use Rattle.gpu_run.proofs.VulkanMoving.{placed, no_place, not_proposed}
use Rattle.gpu_run.proofs.VulkanOwning.{own_given}
use Rattle.gpu_run.proofs.VulkanServing.{quiet, short, stayed, served_quietly, serves_at}
use Rattle.gpu_run.proofs.vulkan.session.Session.propose_move.Goals as goal

pub returns-then-not-contains_key : goal.returns-then-not-contains_key
returns-then-not-contains_key g c =
    let V = g.D.VulkanDevice in
    let s : SessionValue g.row.D.Denot = record { allocator = c.self.inside.allocator; bound = c.self.inside.bound.entries } in
    let none = none_bound (lookup (nat_eq c.args.key) s.bound) c.contains_key.result c.contains_key.ensures c.if-not-contains_key.true in
    λ w d. subst (λ x. IsCommandServed V (Under c.args.key (Move c.args.to w)) replies.Unbound x x) c.self.view_is
    (served_quietly V c.args.key (Move c.args.to w) replies.Unbound s quiet None refl none (refl, stayed (session_of V s)))

pub returns-then-contains_key : goal.returns-then-contains_key
returns-then-contains_key g c =
    let V = g.D.VulkanDevice in
    let s : SessionValue g.row.D.Denot = record { allocator = c.self.inside.allocator; bound = c.self.inside.bound.entries } in
    let a = some_bound (lookup (nat_eq c.args.key) s.bound) c.contains_key.result c.contains_key.ensures c.if-not-contains_key.false in
    let b = some_bound (lookup (nat_eq c.args.to) s.bound) c.contains_key-2.result c.contains_key-2.ensures c.if-contains_key.true in
    λ w d. subst (λ x. IsCommandServed V (Under c.args.key (Move c.args.to w)) replies.Busy x x) c.self.view_is
    (served_quietly V c.args.key (Move c.args.to w) replies.Busy s quiet (Some a.0) refl a.1
    (subst (λ f. ServesMove s.allocator.setup c.args.to f a.0 w quiet replies.Busy (session_of V s) (session_of V s)) (sym b.1) (refl, stayed (session_of V s))))

pub returns-then-is_err : goal.returns-then-is_err
returns-then-is_err g c =
    let V = g.D.VulkanDevice in
    let s : SessionValue g.row.D.Denot = record { allocator = c.self.inside.allocator; bound = c.self.inside.bound.entries } in
    let new : SessionValue g.row.D.Denot = record { allocator = c.self.inside.allocator; bound = c.reserve.new.self.entries } in
    let a = some_bound (lookup (nat_eq c.args.key) s.bound) c.contains_key.result c.contains_key.ensures c.if-not-contains_key.false in
    let none = none_bound (lookup (nat_eq c.args.to) s.bound) c.contains_key-2.result c.contains_key-2.ensures c.if-contains_key.false in
    let reply = replies.Error host_out_of_memory in
    let same : session_of V new ≡ session_of V s = ap (λ b. record { bound = b; model = model_of V s.allocator }) (same_bindings s.bound new.bound (c.reserve.ensures.entries.2)) in
    λ w d. subst (λ x. IsCommandServed V (Under c.args.key (Move c.args.to w)) reply x new) c.self.view_is (record {
      environment = short;
      serves = serves_at s.allocator.setup (session_of V s) (session_of V new) c.args.key (Move c.args.to w) short reply (Some a.0) a.1
          (subst (λ f. ServesMove s.allocator.setup c.args.to f a.0 w short reply (session_of V s) (session_of V new)) (sym none) ((refl, refl), refl, same));
      count = refl;
      latest = refl;
      untouched = λ e. same_leaves (V.held s.allocator.device) (V.held s.allocator.device) refl;
      constant = (refl, refl);
    })

pub invariant_of-self-in-Ok-Some : goal.invariant_of-self-in-Ok-Some
invariant_of-self-in-Ok-Some g c =
    let V = g.D.VulkanDevice in
    let s : SessionValue g.row.D.Denot = record { allocator = c.self.inside.allocator; bound = c.self.inside.bound.entries } in
    let new : SessionValue g.row.D.Denot = record { allocator = c.propose_move.new.self; bound = c.bind.new.bound.entries } in
    let to = c.in-Ok-Some.second in
    let gives : IsSecondPlace c.args.desc.now.requirements.alignment s.allocator.slots c.in-Some.from.now to new.allocator.slots = rw c.in-Ok-Some.field-0-is at c.in-Ok-Some.ensures.gives in
    let is = bound_after s.bound c.reserve.new.self.entries new.bound c.args.to (Some to) (c.reserve.ensures.entries.2) c.bind.ensures in
    own_given (session_of V s) c.self.invariant (session_of V new) c.args.to to is c.propose_move.ensures.keeps gives.live gives.other

pub returns-in-Err : goal.returns-in-Err
returns-in-Err g c =
    let V = g.D.VulkanDevice in
    let s : SessionValue g.row.D.Denot = record { allocator = c.self.inside.allocator; bound = c.self.inside.bound.entries } in
    let new : SessionValue g.row.D.Denot = record { allocator = c.propose_move.new.self; bound = c.reserve.new.self.entries } in
    let found : bindings_of s.bound c.args.key ≡ Some c.in-Some.from.now = sym (c.in-Some.ensures.value ∙ c.reserve.ensures.entries.2 c.args.key) in
    let none = none_bound (lookup (nat_eq c.args.to) s.bound) c.contains_key-2.result c.contains_key-2.ensures c.if-contains_key.false in
    λ w d. subst (λ x. IsCommandServed V (Under c.args.key (Move c.args.to w)) (replies.Error (refusal_of c.in-Err.error)) x new) c.self.view_is
    (not_proposed V s new c.args.key c.args.to w c.args.desc.now d c.in-Some.from.now found none c.propose_move.ensures.others c.in-Err.error
    (same_bindings s.bound new.bound (c.reserve.ensures.entries.2)) c.in-Err.ensures.step)

pub returns-in-Ok-None : goal.returns-in-Ok-None
returns-in-Ok-None g c =
    let V = g.D.VulkanDevice in
    let s : SessionValue g.row.D.Denot = record { allocator = c.self.inside.allocator; bound = c.self.inside.bound.entries } in
    let new : SessionValue g.row.D.Denot = record { allocator = c.propose_move.new.self; bound = c.reserve.new.self.entries } in
    let found : bindings_of s.bound c.args.key ≡ Some c.in-Some.from.now = sym (c.in-Some.ensures.value ∙ c.reserve.ensures.entries.2 c.args.key) in
    let none = none_bound (lookup (nat_eq c.args.to) s.bound) c.contains_key-2.result c.contains_key-2.ensures c.if-contains_key.false in
    let step : IsMoveStep V c.in-Some.from.now c.args.desc.now (Ok None) s.allocator new.allocator = rw c.in-Ok-None.field-0-is at c.in-Ok-None.ensures.step in
    λ w d. subst (λ x. IsCommandServed V (Under c.args.key (Move c.args.to w)) replies.NoPlace x new) c.self.view_is
    (no_place V s new c.args.key c.args.to w c.args.desc.now d c.in-Some.from.now found none c.propose_move.ensures.others
    (same_bindings s.bound new.bound (c.reserve.ensures.entries.2)) step)

pub returns-in-Ok-Some : goal.returns-in-Ok-Some
returns-in-Ok-Some g c =
    let V = g.D.VulkanDevice in
    let s : SessionValue g.row.D.Denot = record { allocator = c.self.inside.allocator; bound = c.self.inside.bound.entries } in
    let new : SessionValue g.row.D.Denot = record { allocator = c.propose_move.new.self; bound = c.bind.new.bound.entries } in
    let found : bindings_of s.bound c.args.key ≡ Some c.in-Some.from.now = sym (c.in-Some.ensures.value ∙ c.reserve.ensures.entries.2 c.args.key) in
    let none = none_bound (lookup (nat_eq c.args.to) s.bound) c.contains_key-2.result c.contains_key-2.ensures c.if-contains_key.false in
    let to = c.in-Ok-Some.second in
    let step : IsMoveStep V c.in-Some.from.now c.args.desc.now (Ok (Some to)) s.allocator new.allocator = rw c.in-Ok-Some.field-0-is at c.in-Ok-Some.ensures.step in
    let is = bound_after s.bound c.reserve.new.self.entries new.bound c.args.to (Some to) (c.reserve.ensures.entries.2) c.bind.ensures in
    λ w d. subst (λ x. IsCommandServed V (Under c.args.key (Move c.args.to w)) (reply_of c.allocated-given.result) x new) c.self.view_is
    (placed V s new c.args.key c.args.to w c.args.desc.now d c.in-Some.from.now found none c.propose_move.ensures.others to (reply_of c.allocated-given.result) is step c.allocated-given.ensures)
