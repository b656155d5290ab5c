use Rattle.std.proofs.Common.{◌≡◌, ◌∙◌, refl, sym, ap, subst, None}
use Rattle.gpu_device.specs.declared.d3d12.types.HeapFlags.{HeapFlags}
use Rattle.gpu_device.specs.declared.d3d12.types.HeapProperties.{HeapProperties}
use Rattle.gpu_device.specs.declared.d3d12.types.ResourceHeapTier.{ResourceHeapTier}
use Rattle.gpu_d3d12.specs.DeviceVersion.{device_of}
use Rattle.gpu_d3d12.specs.MemoryKinds.{memory_kinds, IsFirstServing}
use Rattle.gpu_d3d12.specs.Question.{told_info}
use Rattle.gpu_d3d12.specs.Setup.{kinds_of_device}
use Rattle.gpu_d3d12.specs.declared.device_version.ID3D12DeviceVersion.{ID3D12DeviceVersion}
use Rattle.gpu_pool.specs.RequestState.{pool_of}
use Rattle.gpu_pool.proofs.Holding.{same_holds}
use Rattle.gpu_d3d12.specs.Committed.{resource_reply}
use Rattle.gpu_d3d12.specs.Over.{IsCommittedOver}
use Rattle.gpu_d3d12.specs.Reply.{made_reply}
use Rattle.gpu_d3d12.specs.Source.{SourceState, source_blocks}
use Rattle.gpu_d3d12.specs.State.{Pool, Contents, source_basis}
use Rattle.gpu_d3d12.specs.Step.{info_of, RepliesResource}
use Rattle.gpu_d3d12.proofs.Creating.{committed_over, gets_err, gets_ok}
use Rattle.gpu_d3d12.proofs.Versions.{same_info}
use Rattle.gpu_d3d12.proofs.create_resource.make_committed.Goals as goal
use Rattle.gpu_d3d12.proofs.create_resource.make_committed.Goals.{in-Err, in-Ok}

pub invariant_of-pool : goal.invariant_of-pool
invariant_of-pool g c =
    let V = g.D.D3D12Device in
    let i = c.pool.inside in
    let slots = i.requests.slots in (
      c.pool.invariant.0,
      c.pool.invariant.1 ∙ ap kinds_of_device (sym c.create.ensures.tier),
      same_holds (λ heap. heap.0) (source_blocks V i.source) (source_blocks V c.create.new.source) slots slots refl c.create.ensures.blocks c.pool.invariant.2,
    )

pub returns-clause-made : goal.returns-clause-made
returns-clause-made g c =
    let V = g.D.D3D12Device in
    let i = c.pool.inside in
    let d = c.args.desc.now in
    let own : HeapProperties × HeapFlags = (c.args.own.heap_properties.now, c.args.own.heap_flags) in
    let index = c.type_for-index.result in
    let size = c.allocation_info_of-size.result.size_in_bytes in
    let result = c.match-create.result in
    let was : Pool g.row.D.Denot = pool_of i.source i.requests in
    let old : Contents (SourceState g.row.D.Denot) = record { pool = was; committed = c.args.committed.now } in
    let new : Contents (SourceState g.row.D.Denot) = record { pool = record was { source = c.create.new.source }; committed = c.create.new.self } in
    let sized : size ≡ (info_of (source_basis V i.source) d).size_in_bytes =
    ap (λ info. info.size_in_bytes)
    (c.allocation_info_of-size.ensures ∙ ap (λ (v : ID3D12DeviceVersion g.row.D.Denot). told_info (V.properties (device_of v)) v d.resource_desc.now d.castable_formats.now) c.device.ensures.lent
    ∙ sym (same_info (V.properties (device_of i.source.device)) i.source.device d.resource_desc.now d.castable_formats.now)) in
    let first = subst (λ (t : ResourceHeapTier). IsFirstServing d.memory_location d.resource_category (memory_kinds t) index) c.tier.ensures c.type_for-index.ensures.first in
    let told : RepliesResource d result (made_reply index None size (resource_reply c.create.result)) =
    elim c.match-create.branch [
      | in-Err w ↦ gets_err d index size result c.create.result w.in-Err.error w.result-is w.in-Err.is
      | in-Ok w ↦ gets_ok d index size result c.create.result w.in-Ok.resource w.committed_at.result w.result-is w.in-Ok.is w.committed_at.ensures
    ] in
    subst (λ (p : Pool g.row.D.Denot). IsCommittedOver V d c.args.question own (record { pool = p; committed = c.args.committed.now }) result new) c.pool.view_is
    (committed_over V d c.args.question own old index size c.create.result c.create.new.source c.create.new.self sized first c.create.ensures.committed c.create.ensures.others result told)
