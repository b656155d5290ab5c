use Rattle.std.proofs.Common.{◌≡◌, ◌∙◌, sym, ap, subst, option_copied, rules}
use Rattle.gpu_device.specs.Held.{range_of}
use Rattle.gpu_core.specs.Blocks.{BlocksWellFormed}
use Rattle.gpu_vulkan.specs.Live.{IsLive}
use Rattle.gpu_vulkan.specs.State.{State}
use Rattle.gpu_vulkan.proofs.Listed.{read_step, dead_read, lent_length}
use Rattle.gpu_vulkan.proofs.Inside.{lent_where_mapped, some_copied, copied_some}
use Rattle.gpu_vulkan.proofs.allocator.Allocator.mapped_slice.Goals as goal
use Rattle.gpu_vulkan.proofs.allocator.Allocator.mapped_slice.Goals.{After-bytes}

told : (g : _) (c : After-bytes g) → (let a = c.args.allocation.now in option_copied c.bytes.result ≡ range_of (g.D.VulkanDevice.held c.args.self.now.device) a.device_memory.0 a.offset a.size)
told g c =
    let a = c.args.allocation.now in
    c.bytes.ensures ∙ ap (λ (d : g.row.D.Denot). range_of (g.D.VulkanDevice.held d) a.device_memory.0 a.offset a.size) c.device-device.ensures.lent

pub returns-clause-len : goal.returns-clause-len
returns-clause-len g c =
    let a = c.args.allocation.now in
    lent_length (g.D.VulkanDevice.held c.args.self.now.device) a.device_memory.0 a.offset a.size c.bytes.result (told g (goal.at.returns-clause-len g c).After-bytes)

pub returns-then-not-is_live-clause-step : goal.returns-then-not-is_live-clause-step
returns-then-not-is_live-clause-step g c =
    let dead : IsLive c.args.self.now.slots c.args.allocation.now → ⊥ = search rules in
    dead_read g.D.VulkanDevice c.args.self.now c.args.allocation.now dead

pub returns-clause-step : goal.returns-clause-step
returns-clause-step g c =
    let V = g.D.VulkanDevice in
    let a = c.args.allocation.now in
    let s = c.args.self.now in
    let sound : BlocksWellFormed s.setup.properties.granularity s.slots =
    subst (λ (s : State g.row.D.Denot). BlocksWellFormed s.setup.properties.granularity s.slots) c.self.view_is c.blocks_are_held.ensures.sound in
    let holds = c.device-device.ensures.holds in
    let is = told g (goal.at.returns-clause-step g c).After-bytes in
    let both = lent_where_mapped s.setup.properties (V.held s.first) (V.held s.device) s.slots sound holds (λ n. g.met.D.VulkanDevice.whole s.device n) a
    (c.is_live.ensures.0 c.if-not-is_live.false) c.bytes.result is in
    read_step V (V.held s.first) s sound holds (λ n. g.met.D.VulkanDevice.whole s.device n) a (option_copied c.bytes.result)
    (λ some. both.0 (some_copied c.bytes.result some)) (λ live. copied_some c.bytes.result (both.1 live)) (λ xs same. sym is ∙ same)
