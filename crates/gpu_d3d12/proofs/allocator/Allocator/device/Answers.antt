use Rattle.std.proofs.Common.{subst}
use Rattle.gpu_d3d12.specs.DeviceVersion.{device_of}
use Rattle.gpu_d3d12.specs.Blocks.{HoldsJustLiveBlocks}
use Rattle.gpu_d3d12.specs.Journal.{HoldsResources, IsFirstAndOut}
use Rattle.gpu_d3d12.specs.Source.{SourceState, HoldsFirst, held_by}
use Rattle.gpu_d3d12.specs.State.{State, beside_of}
use Rattle.gpu_d3d12.proofs.Journaling.{first_and_out}
use Rattle.gpu_d3d12.proofs.Leaving.{just_live}
use Rattle.gpu_d3d12.proofs.allocator.Allocator.device.Goals as goal

pub returns-clause-holds : goal.returns-clause-holds
returns-clause-holds g c =
    let V = g.D.D3D12Device in
    let p = c.self.inside.pool in
    let first : HoldsFirst p.source.tier (V.held (device_of p.source.first)) (held_by V p.source) =
    subst (λ (s : SourceState g.row.D.Denot). HoldsFirst s.tier (V.held (device_of s.first)) (held_by V s)) c.source.ensures.lent c.device.ensures.holds in
    subst (λ (s : State g.row.D.Denot). HoldsJustLiveBlocks s.setup.tier (beside_of V s) (V.held (device_of s.device)) s.slots) c.self.view_is
    (just_live p.source.tier (V.held (device_of p.source.first)) (held_by V p.source) p.slots first c.source.ensures.holds)

pub returns-clause-beside : goal.returns-clause-beside
returns-clause-beside g c =
    let V = g.D.D3D12Device in
    let p = c.self.inside.pool in
    let first : HoldsFirst p.source.tier (V.held (device_of p.source.first)) (held_by V p.source) =
    subst (λ (s : SourceState g.row.D.Denot). HoldsFirst s.tier (V.held (device_of s.first)) (held_by V s)) c.source.ensures.lent c.device.ensures.holds in
    let resources : HoldsResources (V.held (device_of p.source.first)) (held_by V p.source) p.source.journal =
    subst (λ (s : SourceState g.row.D.Denot). HoldsResources (V.held (device_of s.first)) (held_by V s) s.journal) c.source.ensures.lent c.device.ensures.resources in
    subst (λ (s : State g.row.D.Denot). IsFirstAndOut (V.held (device_of s.first)) (beside_of V s) s.journal) c.self.view_is
    (first_and_out p.source.tier (V.held (device_of p.source.first)) (held_by V p.source) p.source.journal first resources)
