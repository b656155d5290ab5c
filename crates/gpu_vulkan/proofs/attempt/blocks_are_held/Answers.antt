use Rattle.std.proofs.Common.{◌∙◌, sym, ap, subst, length}
use Rattle.gpu_core.specs.Blocks.{BlocksWellFormed}
use Rattle.gpu_pool.specs.State.{IsSoundAt}
use Rattle.gpu_vulkan.specs.Types.{kinds_of_device}
use Rattle.gpu_vulkan.specs.Blocks.{Slots}
use Rattle.gpu_vulkan.specs.Source.{SourceState, HoldsFirst}
use Rattle.gpu_vulkan.proofs.Leaving.{as_many, well_formed, just_live}
use Rattle.gpu_vulkan.proofs.attempt.blocks_are_held.Goals as goal

pub returns-clause-types : goal.returns-clause-types
returns-clause-types g c =
    let e = c.memory_types.ensures in
    ap (λ (ss : Slots). length ss) (sym e.slots) ∙ as_many c.args.pool.now.source.setup.properties c.memory_types.result.now e.kinds

pub returns-clause-sound : goal.returns-clause-sound
returns-clause-sound g c =
    let e = c.memory_types.ensures in
    let p = c.args.pool.now.source.setup.properties in
    subst (λ (ss : Slots). BlocksWellFormed p.granularity ss) e.slots
    (well_formed p c.memory_types.result.now e.kinds
    (λ t. subst (λ (ss : Slots). IsSoundAt (kinds_of_device p) ss t) (sym e.slots) (c.pieces_are_apart.ensures.sound t)))

pub returns-clause-holds : goal.returns-clause-holds
returns-clause-holds g c =
    let V = g.D.VulkanDevice in
    let s = c.args.pool.now in
    let first : HoldsFirst s.source.setup.properties (V.held s.source.first) (V.held s.source.device) =
    subst (λ (k : SourceState g.row.D.Denot). HoldsFirst k.setup.properties (V.held k.first) (V.held k.device)) c.source.ensures.lent c.device.ensures.holds in
    just_live s.source.setup.properties (V.held s.source.first) (V.held s.source.device) s.slots first c.source.ensures.holds
