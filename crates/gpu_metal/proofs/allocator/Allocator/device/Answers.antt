use Rattle.std.proofs.Common.{subst}
use Rattle.gpu_metal.specs.Source.{HoldsFirst}
use Rattle.gpu_metal.specs.Source.{SourceState}
use Rattle.gpu_metal.specs.Blocks.{HoldsJustLiveBlocks}
use Rattle.gpu_metal.specs.State.{State}
use Rattle.gpu_metal.proofs.Leaving.{just_live}
use Rattle.gpu_metal.proofs.allocator.Allocator.device.Goals as goal

pub returns-clause-holds : goal.returns-clause-holds
returns-clause-holds g c =
    let V = g.D.MetalDevice in
    let p = c.self.inside.pool in
    let first : HoldsFirst p.source.set (V.held p.source.first) (V.held p.source.device) =
    subst (λ (s : SourceState g.row.D.Denot). HoldsFirst s.set (V.held s.first) (V.held s.device)) c.source.ensures.lent c.device.ensures.holds in
    subst (λ (s : State g.row.D.Denot). HoldsJustLiveBlocks s.setup.residency_set (V.held s.first) (V.held s.device) s.slots) c.self.view_is
    (just_live p.source.set (V.held p.source.first) (V.held p.source.device) p.slots first c.source.ensures.holds)
