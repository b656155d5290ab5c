use Rattle.std.specs.Prelude.{IsSome}
use Rattle.std.proofs.Common.{◌∙◌, refl, sym, ap, subst}
use Rattle.gpu_vulkan.specs.Source.{SourceState, blocks_of, HoldsFirst}
use Rattle.gpu_vulkan.proofs.Changing.{writes}
use Rattle.gpu_vulkan.proofs.source.VulkanBlocks.range_mut.Goals as goal

pub invariant_of-self-lent : goal.invariant_of-self-lent
invariant_of-self-lent g c w =
    let V = g.D.VulkanDevice in
    let L = g.met.D.VulkanDevice in
    let i = c.self.inside in
    let n = c.args.memory.0 in
    let some : IsSome (blocks_of (V.held i.first.value) (V.held i.device) n) =
    subst (λ (s : SourceState g.row.D.Denot). IsSome (blocks_of (V.held s.first) (V.held s.device) n)) (sym c.self.view_is) c.requires.block in (
      L.write_constant i.device n c.args.start w ∙ c.self.invariant.0,
      c.self.invariant.1,
      c.self.invariant.2,
      subst (HoldsFirst i.setup.properties (V.held i.first.value)) (sym (L.write_leaves_others i.device n c.args.start w))
          (writes i.setup.properties (V.held i.first.value) (V.held i.device) c.self.invariant.3 n some c.args.start w).0,
    )

pub returns : goal.returns
returns g c =
    let V = g.D.VulkanDevice in
    let L = g.met.D.VulkanDevice in
    let s = c.args.self.now in
    let m = c.args.memory.0 in
    let h : HoldsFirst s.setup.properties (V.held s.first) (V.held s.device) =
    subst (λ (k : SourceState g.row.D.Denot). HoldsFirst k.setup.properties (V.held k.first) (V.held k.device)) c.self.view_is c.self.invariant.3 in (
      (refl, λ w. rw (← c.self.view_is) refl),
      record {
        value = rw (← c.self.view_is) c.range_mut.ensures.value;
        lends = tt;
        blocks = λ ws n.
            ap (λ k. blocks_of (V.held s.first) k n) (L.write_leaves_others s.device m c.args.start ws)
            ∙ (writes s.setup.properties (V.held s.first) (V.held s.device) h m c.requires.block c.args.start ws).1 n;
      },
    )
