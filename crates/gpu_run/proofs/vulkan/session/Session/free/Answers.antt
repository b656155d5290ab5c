use Rattle.std.proofs.Common.{◌≡◌, Some, None, true, refl, ap, sym, subst}
use Rattle.gpu_run.specs.VulkanReply as replies
use Rattle.gpu_run.specs.VulkanSession as sessions
use Rattle.gpu_run.specs.VulkanCommand.{Free, Under}
use Rattle.gpu_vulkan.proofs.Untouched.{same_leaves, free_leaves}
use Rattle.gpu_run.specs.VulkanServed.{SessionValue, session_of, IsCommandServed}
use Rattle.gpu_run.specs.Bindings.{bindings_of}
use Rattle.gpu_run.proofs.Binding.{rebound}
use Rattle.gpu_run.proofs.VulkanServing.{quiet, serves_at}
use Rattle.gpu_run.proofs.vulkan.session.Session.free.Goals as goal

pub returns-in-None : goal.returns-in-None
returns-in-None g c =
    let V = g.D.VulkanDevice in
    let s : SessionValue g.row.D.Denot = record { allocator = c.self.inside.allocator; bound = c.self.inside.bound.entries } in
    let new : SessionValue g.row.D.Denot = record { allocator = c.self.inside.allocator; bound = c.remove.new.self.entries } in
    let same : new ≡ s = ap (λ es. record { allocator = s.allocator; bound = es }) c.in-None.ensures.unchanged in
    let none : bindings_of s.bound c.args.key ≡ None = sym c.in-None.ensures.value in
    subst (λ x. IsCommandServed V (Under c.args.key Free) replies.Unbound x new) c.self.view_is (record {
      environment = quiet;
      serves = serves_at s.allocator.setup (session_of V s) (session_of V new) c.args.key Free quiet replies.Unbound None none (refl, ((refl, refl), ap (session_of V) same));
      count = refl;
      latest = refl;
      untouched = λ e. same_leaves (V.held s.allocator.device) (V.held s.allocator.device) refl;
      constant = (refl, refl);
    })

pub returns-in-Ok : goal.returns-in-Ok
returns-in-Ok g c =
    let V = g.D.VulkanDevice in
    let s : SessionValue g.row.D.Denot = record { allocator = c.self.inside.allocator; bound = c.self.inside.bound.entries } in
    let new : SessionValue g.row.D.Denot = record { allocator = c.free.new.self; bound = c.remove.new.self.entries } in
    let some : bindings_of s.bound c.args.key ≡ Some c.in-Some.allocation = sym c.in-Some.ensures.value in
    let step = c.in-Ok.ensures.step in
    let o : sessions.CommandEnvironment = record { room = true; call = step.environment } in
    subst (λ x. IsCommandServed V (Under c.args.key Free) replies.Done x new) c.self.view_is (record {
      environment = o;
      serves = serves_at s.allocator.setup (session_of V s) (session_of V new) c.args.key Free o replies.Done (Some c.in-Some.allocation) some
          (record { done = refl; step = step.step; bound = rebound s.bound new.bound c.args.key None c.remove.ensures.updates.0 });
      count = step.count;
      latest = step.latest;
      untouched = λ e. free_leaves V c.in-Some.allocation s.allocator.slots new.allocator.slots s.allocator.device new.allocator.device c.free.result c.free.ensures.frees;
      constant = (c.free.ensures.constant.1, c.free.ensures.constant.0);
    })
