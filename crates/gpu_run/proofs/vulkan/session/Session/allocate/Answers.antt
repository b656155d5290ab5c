use Rattle.std.proofs.Common.{◌≡◌, Some, None, refl, ap, subst}
use Rattle.std.specs.Prelude.{nat_eq}
use Rattle.std.specs.Map.{lookup}
use Rattle.gpu_values.specs.Refusal.{refusal_of, host_out_of_memory}
use Rattle.gpu_vulkan.specs.Step.{model_of}
use Rattle.gpu_run.specs.VulkanReply as replies
use Rattle.gpu_run.specs.VulkanCommand.{Alloc, Under}
use Rattle.gpu_vulkan.proofs.Untouched.{same_leaves}
use Rattle.gpu_run.specs.VulkanServed.{SessionValue, session_of, reply_of, IsCommandServed}
use Rattle.gpu_run.proofs.Binding.{some_bound, none_bound, same_bindings, bound_after}
use Rattle.gpu_run.proofs.VulkanOwning.{own_kept, own_given}
use Rattle.gpu_run.proofs.VulkanServing.{quiet, short, stayed, served_quietly, serves_at}
use Rattle.gpu_run.proofs.VulkanTaking.{taken, not_taken}
use Rattle.gpu_run.proofs.vulkan.session.Session.allocate.Goals as goal

pub returns-then-contains_key : goal.returns-then-contains_key
returns-then-contains_key g c =
    let V = g.D.VulkanDevice in
    let s : SessionValue g.row.D.Denot = record { allocator = c.self.inside.allocator; bound = c.self.inside.bound.entries } in
    let a = some_bound (lookup (nat_eq c.args.key) s.bound) c.contains_key.result c.contains_key.ensures c.if-contains_key.true in
    λ w d. subst (λ x. IsCommandServed V (Under c.args.key (Alloc w)) replies.Busy x x) c.self.view_is
    (served_quietly V c.args.key (Alloc w) replies.Busy s quiet (Some a.0) refl a.1 (refl, stayed (session_of V s)))

pub returns-then-is_err : goal.returns-then-is_err
returns-then-is_err g c =
    let V = g.D.VulkanDevice in
    let s : SessionValue g.row.D.Denot = record { allocator = c.self.inside.allocator; bound = c.self.inside.bound.entries } in
    let new : SessionValue g.row.D.Denot = record { allocator = c.self.inside.allocator; bound = c.reserve.new.self.entries } in
    let none = none_bound (lookup (nat_eq c.args.key) s.bound) c.contains_key.result c.contains_key.ensures c.if-contains_key.false in
    let reply = replies.Error host_out_of_memory in
    let same : session_of V new ≡ session_of V s = ap (λ b. record { bound = b; model = model_of V s.allocator }) (same_bindings s.bound new.bound (c.reserve.ensures.entries.2)) in
    λ w d. subst (λ x. IsCommandServed V (Under c.args.key (Alloc w)) reply x new) c.self.view_is (record {
      environment = short;
      serves = serves_at s.allocator.setup (session_of V s) (session_of V new) c.args.key (Alloc w) short reply None none ((refl, refl), refl, same);
      count = refl;
      latest = refl;
      untouched = λ e. same_leaves (V.held s.allocator.device) (V.held s.allocator.device) refl;
      constant = (refl, refl);
    })

pub invariant_of-self-in-Err : goal.invariant_of-self-in-Err
invariant_of-self-in-Err g c =
    let V = g.D.VulkanDevice in
    let s : SessionValue g.row.D.Denot = record { allocator = c.self.inside.allocator; bound = c.self.inside.bound.entries } in
    let new : SessionValue g.row.D.Denot = record { allocator = c.allocate.new.self; bound = c.reserve.new.self.entries } in
    own_kept (session_of V s) c.self.invariant (session_of V new) (same_bindings s.bound new.bound (c.reserve.ensures.entries.2)) c.allocate.ensures.keeps

pub invariant_of-self-in-Ok : goal.invariant_of-self-in-Ok
invariant_of-self-in-Ok g c =
    let V = g.D.VulkanDevice in
    let s : SessionValue g.row.D.Denot = record { allocator = c.self.inside.allocator; bound = c.self.inside.bound.entries } in
    let new : SessionValue g.row.D.Denot = record { allocator = c.allocate.new.self; bound = c.bind.new.bound.entries } in
    let is = bound_after s.bound c.reserve.new.self.entries new.bound c.args.key (Some c.in-Ok.allocation) (c.reserve.ensures.entries.2) c.bind.ensures in
    own_given (session_of V s) c.self.invariant (session_of V new) c.args.key c.in-Ok.allocation is c.allocate.ensures.keeps c.in-Ok.ensures.gives.0 c.in-Ok.ensures.gives.1

pub returns-in-Err : goal.returns-in-Err
returns-in-Err g c =
    let V = g.D.VulkanDevice in
    let s : SessionValue g.row.D.Denot = record { allocator = c.self.inside.allocator; bound = c.self.inside.bound.entries } in
    let new : SessionValue g.row.D.Denot = record { allocator = c.allocate.new.self; bound = c.reserve.new.self.entries } in
    let none = none_bound (lookup (nat_eq c.args.key) s.bound) c.contains_key.result c.contains_key.ensures c.if-contains_key.false in
    λ w d. subst (λ x. IsCommandServed V (Under c.args.key (Alloc w)) (replies.Error (refusal_of c.in-Err.error)) x new) c.self.view_is
    (not_taken V s new c.args.key w c.args.desc.now d c.in-Err.error none (same_bindings s.bound new.bound (c.reserve.ensures.entries.2)) c.in-Err.ensures.step c.in-Err.ensures.allocates
    (c.allocate.ensures.constant.0, c.allocate.ensures.constant.1))

pub returns-in-Ok : goal.returns-in-Ok
returns-in-Ok g c =
    let V = g.D.VulkanDevice in
    let s : SessionValue g.row.D.Denot = record { allocator = c.self.inside.allocator; bound = c.self.inside.bound.entries } in
    let new : SessionValue g.row.D.Denot = record { allocator = c.allocate.new.self; bound = c.bind.new.bound.entries } in
    let none = none_bound (lookup (nat_eq c.args.key) s.bound) c.contains_key.result c.contains_key.ensures c.if-contains_key.false in
    let is = bound_after s.bound c.reserve.new.self.entries new.bound c.args.key (Some c.in-Ok.allocation) (c.reserve.ensures.entries.2) c.bind.ensures in
    λ w d. subst (λ x. IsCommandServed V (Under c.args.key (Alloc w)) (reply_of c.allocated-given.result) x new) c.self.view_is
    (taken V s new c.args.key w c.args.desc.now d c.in-Ok.allocation (reply_of c.allocated-given.result) none is c.in-Ok.ensures.step c.in-Ok.ensures.allocates
    (c.allocate.ensures.constant.0, c.allocate.ensures.constant.1) c.allocated-given.ensures)
