use Rattle.std.proofs.Common.{◌≡◌, ℕ, Some, None, refl, ap, subst}
use Rattle.std.specs.Prelude.{nat_eq, cond}
use Rattle.std.specs.Map.{lookup}
use Rattle.gpu_vulkan.specs.Live.{null_allocation}
use Rattle.gpu_vulkan.specs.Step.{model_of}
use Rattle.gpu_values.specs.Refusal.{host_out_of_memory}
use Rattle.gpu_vulkan.proofs.Untouched.{same_leaves}
use Rattle.gpu_run.specs.VulkanReply as replies
use Rattle.gpu_run.specs.VulkanCommand.{Null, Under}
use Rattle.gpu_run.specs.Bindings.{bind}
use Rattle.gpu_run.specs.VulkanServed.{SessionValue, session_of, IsCommandServed}
use Rattle.gpu_run.specs.Bindings.{bindings_of}
use Rattle.gpu_run.proofs.Binding.{some_bound, none_bound, same_bindings, bound_after}
use Rattle.gpu_run.proofs.VulkanServing.{quiet, short, stayed, served_quietly, serves_at}
use Rattle.gpu_run.proofs.vulkan.session.Session.bind_null.Goals as goal

pub returns-then-contains_key : goal.returns-then-contains_key
returns-then-contains_key g c =
    let V = g.D.VulkanDevice in
    let s : SessionValue g.row.D.Denot = record { allocator = c.self.inside.allocator; bound = c.self.inside.bound.entries } in
    let a = some_bound (lookup (nat_eq c.args.key) s.bound) c.contains_key.result c.contains_key.ensures c.if-contains_key.true in
    subst (λ x. IsCommandServed V (Under c.args.key Null) replies.Busy x x) c.self.view_is (served_quietly V c.args.key Null replies.Busy s quiet (Some a.0) refl a.1 (refl, stayed (session_of V s)))

pub returns-then-is_err : goal.returns-then-is_err
returns-then-is_err g c =
    let V = g.D.VulkanDevice in
    let s : SessionValue g.row.D.Denot = record { allocator = c.self.inside.allocator; bound = c.self.inside.bound.entries } in
    let new : SessionValue g.row.D.Denot = record { allocator = c.self.inside.allocator; bound = c.reserve.new.self.entries } in
    let none = none_bound (lookup (nat_eq c.args.key) s.bound) c.contains_key.result c.contains_key.ensures c.if-contains_key.false in
    let reply = replies.Error host_out_of_memory in
    let same : session_of V new ≡ session_of V s = ap (λ b. record { bound = b; model = model_of V s.allocator }) (same_bindings s.bound new.bound (c.reserve.ensures.entries.2)) in
    subst (λ x. IsCommandServed V (Under c.args.key Null) reply x new) c.self.view_is (record {
      environment = short;
      serves = serves_at s.allocator.setup (session_of V s) (session_of V new) c.args.key Null short reply None none ((refl, refl), (refl, same));
      count = refl;
      latest = refl;
      untouched = λ e. same_leaves (V.held s.allocator.device) (V.held s.allocator.device) refl;
      constant = (refl, refl);
    })

pub returns : goal.returns
returns g c =
    let V = g.D.VulkanDevice in
    let s : SessionValue g.row.D.Denot = record { allocator = c.self.inside.allocator; bound = c.self.inside.bound.entries } in
    let new : SessionValue g.row.D.Denot = record { allocator = c.self.inside.allocator; bound = c.bind.new.bound.entries } in
    let none = none_bound (lookup (nat_eq c.args.key) s.bound) c.contains_key.result c.contains_key.ensures c.if-contains_key.false in
    let put = subst (λ a. (k : ℕ) → lookup (nat_eq k) new.bound ≡ cond (nat_eq c.args.key k) (Some a) (lookup (nat_eq k) c.reserve.new.self.entries)) c.default.ensures c.bind.ensures in
    let is = bound_after s.bound c.reserve.new.self.entries new.bound c.args.key (Some null_allocation) (c.reserve.ensures.entries.2) put in
    let same : session_of V new ≡ record (session_of V s) { bound = bind (bindings_of s.bound) c.args.key (Some null_allocation) } = ap (λ b. record { bound = b; model = model_of V s.allocator }) is in
    subst (λ x. IsCommandServed V (Under c.args.key Null) replies.Done x new) c.self.view_is (record {
      environment = quiet;
      serves = serves_at s.allocator.setup (session_of V s) (session_of V new) c.args.key Null quiet replies.Done None none ((refl, refl), (refl, same));
      count = refl;
      latest = refl;
      untouched = λ e. same_leaves (V.held s.allocator.device) (V.held s.allocator.device) refl;
      constant = (refl, refl);
    })
