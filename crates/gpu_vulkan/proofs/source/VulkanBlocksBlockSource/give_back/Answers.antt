use Rattle.std.specs.Prelude.{IsSome}
use Rattle.std.proofs.Common.{◌∙◌, sym, subst}
use Rattle.gpu_pool.specs.Source.{Removes}
use Rattle.gpu_vulkan.specs.Source.{SourceState, blocks_of}
use Rattle.gpu_vulkan.proofs.Changing.{removes, goes}
use Rattle.gpu_vulkan.proofs.source.VulkanBlocksBlockSource.give_back.Goals as goal
use Rattle.gpu_vulkan.proofs.source.VulkanBlocksBlockSource.give_back.Goals.{After-free_block_memory}

some : (g : _) (c : After-free_block_memory g) → IsSome (blocks_of (g.D.VulkanDevice.held c.self.inside.first.value) (g.D.VulkanDevice.held c.self.inside.device) c.args.handle.0)
some g c =
    let V = g.D.VulkanDevice in
    subst (λ (s : SourceState g.row.D.Denot). IsSome (blocks_of (V.held s.first) (V.held s.device) c.args.handle.0)) (sym c.self.view_is) c.requires

pub invariant_of-self : goal.invariant_of-self
invariant_of-self g c =
    let V = g.D.VulkanDevice in
    let i = c.self.inside in
    let e = c.free_block_memory.ensures in (
      e.constant ∙ c.self.invariant.0,
      c.self.invariant.1,
      c.self.invariant.2,
      goes i.setup.properties (V.held i.first.value) (V.held i.device) (V.held c.free_block_memory.new.device) c.self.invariant.3 c.args.handle.0
          (some g (goal.at.invariant_of-self g c).After-free_block_memory) e.gives_back,
    )

pub returns-clause-removed : goal.returns-clause-removed
returns-clause-removed g c =
    let V = g.D.VulkanDevice in
    let i = c.self.inside in
    let now = V.held c.free_block_memory.new.device in
    subst (λ (s : SourceState g.row.D.Denot). Removes (blocks_of (V.held s.first) (V.held s.device)) c.args.handle.0 (blocks_of (V.held i.first.value) now)) c.self.view_is
    (removes i.setup.properties (V.held i.first.value) (V.held i.device) now c.self.invariant.3 c.args.handle.0 (some g (goal.at.returns-clause-removed g c).After-free_block_memory)
    c.free_block_memory.ensures.gives_back)
