use Rattle.std.proofs.Common.{◌∙◌, sym, ap, subst, None, Option}
use Rattle.gpu_values.specs.Refusal.{refusal_of}
use Rattle.gpu_core.specs.Blocks.{Slots}
use Rattle.gpu_pool.specs.Live.{IsLive}
use Rattle.gpu_machine.specs.VulkanBegin.{Shrinks, Declines}
use Rattle.gpu_machine.specs.VulkanState.{State}
use Rattle.gpu_machine.specs.declared.vulkan.asking.Asking.{Asking}
use Rattle.gpu_machine.proofs.VulkanBeginning.{goes_on, declined_keeps}
use Rattle.gpu_machine.proofs.vulkan.machine.Machine.declined.Goals as goal

pub returns-clause-declines : goal.returns-clause-declines
returns-clause-declines g c =
    let i = c.self.inside in
    let refusal = refusal_of c.args.error in
    let asking = c.in-Some-take.asking in
    let block = c.in-Some.block in
    let lent = c.lend-desc.result in
    let follows : Shrinks asking block (record { setup = i.setup; limits = i.limits.items; most_blocks = i.most_blocks; smaller_blocks = i.smaller_blocks; requests = c.declined.new.self; asking = None }) lent refusal c.shrink.result c.shrink.new.self =
    subst
    (λ (o : Option Asking). Shrinks asking block (record { setup = i.setup; limits = i.limits.items; most_blocks = i.most_blocks; smaller_blocks = i.smaller_blocks; requests = c.declined.new.self; asking = o }) lent refusal c.shrink.result c.shrink.new.self)
    c.in-Some-take.ensures.after c.shrink.ensures.smaller in
    subst (λ (s : State g.row.H.Denot). Declines s refusal c.shrink.result c.shrink.new.self) c.self.view_is
    (goes_on i.setup i.limits.items i.most_blocks i.smaller_blocks i.requests i.asking c.self.invariant.1 asking (sym c.in-Some-take.ensures.value) c.declined.new.self c.in-Ok.ensures.declines block c.in-Some.ensures.open lent
    c.lend-desc.ensures refusal c.shrink.result c.shrink.new.self follows)

pub returns-clause-keeps : goal.returns-clause-keeps
returns-clause-keeps g c = λ t p live.
    let same = declined_keeps c.self.inside.requests c.declined.new.self c.in-Ok.ensures.declines ∙ ap (λ (s : State g.row.H.Denot). s.requests.slots) c.self.view_is in
    c.shrink.ensures.keeps t p (subst (λ (ss : Slots g.row.H.Denot). IsLive g.H.PartialEq.eq ss t p) (sym same) live)
