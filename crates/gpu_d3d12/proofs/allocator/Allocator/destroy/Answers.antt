use Rattle.std.proofs.Common.{List, ◌∙◌, sym, ap, subst}
use Rattle.gpu_d3d12.specs.DeviceVersion.{device_of, with_device}
use Rattle.gpu_d3d12.specs.declared.device_version.ID3D12DeviceVersion.{ID3D12DeviceVersion}
use Rattle.gpu_pool.specs.Handles.{all_handles}
use Rattle.gpu_d3d12.specs.Blocks.{AsksNothing, releases_recorded}
use Rattle.gpu_d3d12.specs.Journal.{IsFirstAndOut}
use Rattle.gpu_d3d12.specs.declared.journal.ResourceEvent.{ResourceEvent}
use Rattle.gpu_d3d12.specs.State.{State, beside_of}
use Rattle.gpu_d3d12.proofs.Leaving.{empties}
use Rattle.gpu_d3d12.proofs.Staying.{all_back_stays, all_back_journal, same_first}
use Rattle.gpu_d3d12.proofs.allocator.Allocator.destroy.Goals as goal

pub returns-clause-held : goal.returns-clause-held
returns-clause-held g c =
    let V = g.D.D3D12Device in
    let i = c.self.inside in
    c.into_device.ensures.held ∙ (empties V i.pool.source _ c.destroy.result c.destroy.ensures.gives_back).beside ∙ ap (λ (s : State g.row.D.Denot). beside_of V s) c.self.view_is

pub returns-clause-asks_nothing : goal.returns-clause-asks_nothing
returns-clause-asks_nothing g c =
    let V = g.D.D3D12Device in
    let i = c.self.inside in
    let k = empties V i.pool.source _ c.destroy.result c.destroy.ensures.gives_back in
    subst (λ (s : State g.row.D.Denot). AsksNothing V (device_of s.device) (device_of c.into_device.result)) c.self.view_is
    (subst (λ (v : ID3D12DeviceVersion g.row.D.Denot). AsksNothing V (device_of i.pool.source.device) (device_of v)) (sym c.into_device.ensures.same) k.asks_nothing)

pub returns-clause-recorded : goal.returns-clause-recorded
returns-clause-recorded g c =
    let V = g.D.D3D12Device in
    let i = c.self.inside in
    ap (λ (v : ID3D12DeviceVersion g.row.D.Denot). V.history (device_of v)) c.into_device.ensures.same
    ∙ (empties V i.pool.source _ c.destroy.result c.destroy.ensures.gives_back).history
    ∙ ap (λ (s : State g.row.D.Denot). releases_recorded (all_handles s.slots) (V.history (device_of s.device))) c.self.view_is

pub returns-clause-version : goal.returns-clause-version
returns-clause-version g c =
    let V = g.D.D3D12Device in
    let i = c.self.inside in
    let to = device_of c.into_device.result in
    c.into_device.ensures.version
    ∙ ap (λ (v : ID3D12DeviceVersion g.row.D.Denot). with_device v to) (same_first V i.pool.source c.destroy.result (all_back_stays V i.pool.source _ c.destroy.result c.destroy.ensures.gives_back))
    ∙ ap (λ (s : State g.row.D.Denot). with_device s.first to) c.self.view_is

pub returns-clause-left : goal.returns-clause-left
returns-clause-left g c =
    let V = g.D.D3D12Device in
    let i = c.self.inside in
    let back = c.destroy.ensures.gives_back in
    let first = same_first V i.pool.source c.destroy.result (all_back_stays V i.pool.source _ c.destroy.result back) ∙ ap (λ (s : State g.row.D.Denot). s.first) c.self.view_is in
    let journal = all_back_journal V i.pool.source _ c.destroy.result back ∙ ap (λ (s : State g.row.D.Denot). s.journal) c.self.view_is in
    subst (λ (xs : List ResourceEvent). IsFirstAndOut (V.held (device_of c.args.self.first)) (V.held (device_of c.into_device.result)) xs) journal
    (subst (λ (v : ID3D12DeviceVersion g.row.D.Denot). IsFirstAndOut (V.held (device_of v)) (V.held (device_of c.into_device.result)) c.destroy.result.journal) first c.into_device.ensures.left)
