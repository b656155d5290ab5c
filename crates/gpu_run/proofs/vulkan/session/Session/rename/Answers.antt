use Rattle.std.proofs.Common.{◌≡◌, Some, None, refl, ap, sym, subst}
use Rattle.std.specs.Prelude.{IsSome}
use Rattle.gpu_vulkan.specs.Live.{piece_of}
use Rattle.gpu_run.specs.VulkanReply as replies
use Rattle.gpu_run.specs.VulkanCommand.{Rename, Under}
use Rattle.gpu_run.specs.VulkanServed.{SessionValue, session_of, reply_of, IsCommandServed}
use Rattle.gpu_run.specs.Bindings.{bindings_of}
use Rattle.gpu_run.proofs.Binding.{rebound}
use Rattle.gpu_run.proofs.VulkanNaming.{named_of, same_of, renamed, not_renamed}
use Rattle.gpu_run.proofs.VulkanServing.{quiet, stayed, served_quietly}
use Rattle.gpu_run.proofs.vulkan.session.Session.rename.Goals as goal
use Rattle.gpu_run.proofs.vulkan.session.Session.rename.Goals.{in-Ok, in-Err}

pub returns-in-None : goal.returns-in-None
returns-in-None g c =
    let V = g.D.VulkanDevice in
    let s : SessionValue g.row.D.Denot = record { allocator = c.self.inside.allocator; bound = c.self.inside.bound.entries } in
    let new : SessionValue g.row.D.Denot = record { allocator = c.self.inside.allocator; bound = c.get_mut.follows.lender-at-none.entries } in
    let same : s ≡ new = ap (λ m. record { allocator = s.allocator; bound = m.entries }) (sym (c.get_mut.follows.holds-at-none)) in
    let none : bindings_of s.bound c.args.key ≡ None = sym c.in-None.ensures.value in
    subst (λ x. IsCommandServed V (Under c.args.key (Rename c.args.name.now)) replies.Unbound x new) c.self.view_is
    (subst (λ y. IsCommandServed V (Under c.args.key (Rename c.args.name.now)) replies.Unbound s y) same
    (served_quietly V c.args.key (Rename c.args.name.now) replies.Unbound s quiet None refl none (refl, stayed (session_of V s))))

pub returns-after-rename_allocation : goal.returns-after-rename_allocation
returns-after-rename_allocation g c =
    let V = g.D.VulkanDevice in
    let s : SessionValue g.row.D.Denot = record { allocator = c.self.inside.allocator; bound = c.self.inside.bound.entries } in
    let a = c.in-Some.allocation.now in
    let b = c.rename_allocation.new.allocation in
    let new : SessionValue g.row.D.Denot = record { allocator = c.rename_allocation.new.self; bound = (c.get_mut.follows.lender b).entries } in
    let found : bindings_of s.bound c.args.key ≡ Some a = sym c.in-Some.ensures.value in
    let some : IsSome (bindings_of s.bound c.args.key) = subst (λ o. IsSome o) (sym found) refl in
    let is = rebound s.bound new.bound c.args.key (Some b) ((c.get_mut.follows.holds b).3 some).0 in
    let reply = reply_of c.match-rename_allocation.result in
    let constant : (new.allocator.setup ≡ s.allocator.setup) × (new.allocator.first ≡ s.allocator.first) = (c.rename_allocation.ensures.constant.2, c.rename_allocation.ensures.constant.1) in
    subst (λ x. IsCommandServed V (Under c.args.key (Rename c.args.name.now)) reply x new) c.self.view_is
    (elim c.match-rename_allocation.branch [
      | in-Ok w ↦
          renamed V s new c.args.key c.args.name.now a b reply found is constant c.rename_allocation.ensures.constant.0
          (named_of a b (piece_of a) c.args.name.now w.in-Ok.field-0 s.allocator.slots new.allocator.slots w.in-Ok.ensures.renames) (ap reply_of w.result-is) w.in-Ok.ensures.step
      | in-Err w ↦
          not_renamed V s new c.args.key c.args.name.now a b reply found is constant c.rename_allocation.ensures.constant.0 w.in-Err.error
          (same_of a b (piece_of a) c.args.name.now w.in-Err.error s.allocator.slots new.allocator.slots w.in-Err.ensures.renames) (ap reply_of w.result-is) w.in-Err.ensures.step
    ])
