use Rattle.std.proofs.Common.{◌≡◌, ◌∙◌, sym, ap, subst}
use Rattle.gpu_device.specs.declared.d3d12.types.HeapFlags.{HeapFlags}
use Rattle.gpu_device.specs.declared.d3d12.types.HeapProperties.{HeapProperties}
use Rattle.gpu_d3d12.specs.Question.{resource_question}
use Rattle.gpu_d3d12.specs.declared.device_version.ID3D12DeviceVersion.{ID3D12DeviceVersion}
use Rattle.gpu_d3d12.specs.Over.{IsCommittedOver, IsPlacedOver}
use Rattle.gpu_d3d12.specs.Source.{SourceState}
use Rattle.gpu_d3d12.specs.State.{State, Setup, state_of, pool_of, contents_of, source_basis}
use Rattle.gpu_d3d12.proofs.Creating.{not_asked, committed_step, placed_step, place_stays, place_sizes}
use Rattle.gpu_d3d12.proofs.Fresh.{committed_fresh, placed_fresh}
use Rattle.gpu_d3d12.proofs.Staying.{same_first, same_tier}
use Rattle.gpu_d3d12.proofs.allocator.Allocator.create_resource.Goals as goal
use Rattle.gpu_d3d12.proofs.allocator.Allocator.create_resource.Goals.{After-question_for}

version : (g : _) (c : After-question_for g) → c.args.self.now.device ≡ c.device.result.now
version g c = sym (c.device.ensures.lent ∙ ap (λ (x : SourceState g.row.D.Denot). x.device) c.source.ensures.lent ∙ ap (λ (s : State g.row.D.Denot). s.device) c.self.view_is)

same : (g : _) (c : After-question_for g)
    → resource_question c.args.self.now.device c.args.desc.now.initial_state_or_layout c.args.desc.now.castable_formats.now ≡ resource_question c.device.result.now c.args.desc.now.initial_state_or_layout c.args.desc.now.castable_formats.now
same g c = ap (λ (v : ID3D12DeviceVersion g.row.D.Denot). resource_question v c.args.desc.now.initial_state_or_layout c.args.desc.now.castable_formats.now) (version g c)

pub returns-in-Err-clause-step : goal.returns-in-Err-clause-step
returns-in-Err-clause-step g c =
    not_asked g.D.D3D12Device c.args.desc.now c.args.self.now c.in-Err.error (same g (goal.at.returns-in-Err-clause-step g c).After-question_for ∙ c.in-Err.ensures)

pub returns-in-Committed-clause-step : goal.returns-in-Committed-clause-step
returns-in-Committed-clause-step g c =
    let V = g.D.D3D12Device in
    let i = c.self.inside in
    let d = c.args.desc.now in
    let own : HeapProperties × HeapFlags = (c.in-Committed.heap_properties.now, c.in-Committed.heap_flags) in
    let new : State g.row.D.Denot = state_of c.make_committed.new.pool c.make_committed.new.committed i.debug in
    committed_step V d c.args.self.now new c.make_committed.result c.in-Ok.question c.in-Committed.heap_properties c.in-Committed.heap_flags c.in-Committed.is
    (same g (goal.at.returns-in-Committed-clause-step g c).After-question_for ∙ c.in-Ok.ensures)
    (subst (λ (s : State g.row.D.Denot). IsCommittedOver V d c.in-Ok.question own (contents_of s) c.make_committed.result (contents_of new)) c.self.view_is c.make_committed.ensures.made)

pub returns-in-Placed-clause-step : goal.returns-in-Placed-clause-step
returns-in-Placed-clause-step g c =
    let V = g.D.D3D12Device in
    let i = c.self.inside in
    let d = c.args.desc.now in
    let new : State g.row.D.Denot = state_of c.make_placed.new.pool i.committed i.debug in
    placed_step V d c.args.self.now new c.make_placed.result c.in-Ok.question c.in-Placed.is
    (same g (goal.at.returns-in-Placed-clause-step g c).After-question_for ∙ c.in-Ok.ensures)
    (subst (λ (s : State g.row.D.Denot). IsPlacedOver V d c.in-Ok.question (pool_of s) c.make_placed.result (pool_of new)) c.self.view_is c.make_placed.ensures.made)
    (ap (λ (s : State g.row.D.Denot). s.committed) c.self.view_is)

pub returns-in-Placed-clause-constant : goal.returns-in-Placed-clause-constant
returns-in-Placed-clause-constant g c =
    let V = g.D.D3D12Device in
    let i = c.self.inside in
    let o = c.make_placed.ensures.made in
    let now = c.make_placed.new.pool in
    let basis = source_basis V i.pool.source in
    let stay = (place_stays V basis c.args.desc.now c.in-Ok.question o.environment o.reply i.pool now o.places).0 in
    let tiers = same_tier V i.pool.source now.source stay in
    let sizes = place_sizes V basis c.args.desc.now c.in-Ok.question o.environment o.reply i.pool now o.places in
    let setups : ◌≡◌ {A = Setup} (record { tier = now.source.tier; sizes = now.sizes; debug = i.debug }) (record { tier = i.pool.source.tier; sizes = i.pool.sizes; debug = i.debug }) =
    λ j. record { tier = tiers j; sizes = sizes j; debug = i.debug } in (
      same_first V i.pool.source now.source stay ∙ ap (λ (s : State g.row.D.Denot). s.first) c.self.view_is,
      setups ∙ ap (λ (s : State g.row.D.Denot). s.setup) c.self.view_is,
    )

-- a number that nothing was held under before, as the pool's source was
pub returns-in-Committed-clause-fresh : goal.returns-in-Committed-clause-fresh
returns-in-Committed-clause-fresh g c =
    let V = g.D.D3D12Device in
    let own : HeapProperties × HeapFlags = (c.in-Committed.heap_properties.now, c.in-Committed.heap_flags) in
    let new : State g.row.D.Denot = state_of c.make_committed.new.pool c.make_committed.new.committed c.self.inside.debug in
    committed_fresh V c.args.desc.now c.in-Ok.question own (contents_of c.args.self.now) c.make_committed.result (contents_of new)
    (subst (λ (s : State g.row.D.Denot). IsCommittedOver V c.args.desc.now c.in-Ok.question own (contents_of s) c.make_committed.result (contents_of new)) c.self.view_is c.make_committed.ensures.made)

pub returns-in-Placed-clause-fresh : goal.returns-in-Placed-clause-fresh
returns-in-Placed-clause-fresh g c =
    let V = g.D.D3D12Device in
    let i = c.self.inside in
    let new : State g.row.D.Denot = state_of c.make_placed.new.pool i.committed i.debug in
    placed_fresh V c.args.desc.now c.in-Ok.question (pool_of c.args.self.now) c.make_placed.result (pool_of new)
    (subst (λ (s : State g.row.D.Denot). IsPlacedOver V c.args.desc.now c.in-Ok.question (pool_of s) c.make_placed.result (pool_of new)) c.self.view_is c.make_placed.ensures.made)
