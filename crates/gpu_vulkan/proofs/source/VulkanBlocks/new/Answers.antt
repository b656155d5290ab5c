use Rattle.std.proofs.Common.{◌≡◌, sym, subst}
use Rattle.gpu_vulkan.specs.Source.{HoldsFirst}
use Rattle.gpu_vulkan.proofs.Changing.{holds_at_start}
use Rattle.gpu_vulkan.proofs.source.VulkanBlocks.new.Goals as goal

pub invariant_of-result : goal.invariant_of-result
invariant_of-result g c =
    let V = g.D.VulkanDevice in
    let device = c.args.device in
    let p = c.args.setup.properties in
    let told = sym c.requires.told in (
      told,
      subst (λ (d : g.row.D.Denot). V.properties d ≡ p) (sym c.of-first.ensures) told,
      c.requires.valid,
      subst (λ (d : g.row.D.Denot). HoldsFirst p (V.held d) (V.held device)) (sym c.of-first.ensures) (holds_at_start p (V.held device)),
    )
