use Rattle.std.proofs.Common.{◌≡◌, ◌<◌, ◌^◌, rules, sym, subst, arith, length, List, slice_set, Option, None}
use Rattle.gpu_d3d12.specs.Committed.{total_size}
use Rattle.gpu_d3d12.specs.CommittedRequests.{HasRoom, Forgets}
use Rattle.gpu_d3d12.specs.declared.committed_record.CommittedRecord.{CommittedRecord}
use Rattle.gpu_d3d12.specs.declared.committed_requests.AwaitedResource.{AwaitedResource}
use Rattle.gpu_d3d12.proofs.Awaiting.{rooms, state, forgets}
use Rattle.gpu_d3d12.proofs.Records.{row_there, row_sums}
use Rattle.gpu_d3d12.proofs.committed_requests.CommittedRequests.forget.Goals as goal
use Rattle.gpu_d3d12.proofs.committed_requests.CommittedRequests.forget.Goals.{After-index_mut}

below : (c : After-index_mut) → c.args.committed.memory_type < length c.self.inside.types.items
below c =
    let small = c.if-committed-len.false in
    let len = c.len.ensures in
    omega (arith, small, len)

closed : (c : After-index_mut) → c.self.inside.awaited ≡ None
closed c = search rules

pub invariant_of-self : goal.invariant_of-self
invariant_of-self c =
    let at = (goal.at.invariant_of-self c).After-index_mut in
    let rows = c.self.inside.types.items in
    let i = c.args.committed.memory_type in
    let w = c.remove_record.new.records in
    let was = subst (λ (rs : List CommittedRecord). total_size rs < 2 ^ 64) (row_there rows i c.index_mut.result.now (below at) c.index_mut.ensures.value) (c.self.invariant.0 i) in (
      row_sums rows i w (below at) c.self.invariant.0 (c.remove_record.ensures.sum was),
      subst (λ (o : Option AwaitedResource). HasRoom (rooms (slice_set rows i w)) o) (sym (closed at)) tt,
    )

pub returns : goal.returns
returns c =
    let at = (goal.at.returns c).After-index_mut in
    let rows = c.self.inside.types.items in
    let e = c.remove_record.ensures in
    let view = subst (λ (o : Option AwaitedResource). state rows o ≡ c.args.self.now) (closed at) c.self.view_is in
    subst (λ (o : Option AwaitedResource). Forgets c.args.self.now c.args.committed c.remove_record.result (state (slice_set rows c.args.committed.memory_type c.remove_record.new.records) o)) (sym (closed at))
    (forgets rows c.args.committed c.index_mut.result.now c.remove_record.new.records c.args.self.now view (below at) c.index_mut.ensures.value c.remove_record.result e.gives e.dead e.cause e.refused)
