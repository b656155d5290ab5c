use Rattle.std.proofs.Common.{◌≡◌, ℕ, None, sym, subst}
use Rattle.gpu_vulkan.specs.Source.{SourceState, blocks_of}
use Rattle.gpu_vulkan.proofs.Changing.{all_left}
use Rattle.gpu_vulkan.proofs.source.VulkanBlocks.into_device.Goals as goal

pub returns-clause-held : goal.returns-clause-held
returns-clause-held g c =
    let V = g.D.VulkanDevice in
    let i = c.self.inside in
    let none : (n : ℕ) → blocks_of (V.held i.first.value) (V.held i.device) n ≡ None =
    subst (λ (s : SourceState g.row.D.Denot). (n : ℕ) → blocks_of (V.held s.first) (V.held s.device) n ≡ None) (sym c.self.view_is) c.requires in
    subst (λ (s : SourceState g.row.D.Denot). V.held i.device ≡ V.held s.first) c.self.view_is
    (all_left i.setup.properties (V.held i.first.value) (V.held i.device) c.self.invariant.3 none)
