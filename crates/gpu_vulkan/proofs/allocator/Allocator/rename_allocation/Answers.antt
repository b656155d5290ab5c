use Rattle.std.proofs.Common.{ap, sym, subst}
use Rattle.gpu_vulkan.specs.Live.{IsLive}
use Rattle.gpu_vulkan.specs.State.{State, state_of, Pool}
use Rattle.gpu_vulkan.specs.Step.{IsStep, Rename, reply_of_done}
use Rattle.gpu_vulkan.proofs.Named.{rename_step}
use Rattle.gpu_vulkan.proofs.allocator.Allocator.rename_allocation.Goals as goal

pub returns-clause-step : goal.returns-clause-step
returns-clause-step g c =
    let V = g.D.VulkanDevice in
    let new = c.rename.new.pool in
    let others = c.rename.ensures.others in
    subst (λ (s : State g.row.D.Denot). IsStep V (Rename c.args.allocation.now c.args.name.now) (reply_of_done c.rename.result) s (state_of new)) c.self.view_is
    (rename_step V (state_of c.self.inside.pool) (state_of new) (ap (λ (p : Pool g.row.D.Denot). p.source.device) others) (ap (λ (p : Pool g.row.D.Denot). p.budgets) others) c.args.allocation.now
    c.rename.new.allocation c.args.name.now c.rename.result c.rename.ensures.renames)

pub returns-clause-live : goal.returns-clause-live
returns-clause-live g c = λ x live. c.rename.ensures.live x (subst (λ (s : State g.row.D.Denot). IsLive s.slots x) (sym c.self.view_is) live)
