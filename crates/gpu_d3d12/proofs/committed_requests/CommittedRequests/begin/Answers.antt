use Rattle.std.proofs.Common.{◌≡◌, ◌<◌, ◌^◌, rules, ap, sym, subst, arith, length, List, slice_set, None, Option, Err}
use Rattle.gpu_d3d12.specs.Committed.{total_size}
use Rattle.gpu_d3d12.specs.CommittedRequests.{RecordState, HasRoom, Begins}
use Rattle.gpu_d3d12.specs.declared.committed_record.CommittedRecord.{CommittedRecord}
use Rattle.gpu_d3d12.specs.declared.committed_requests.AwaitedResource.{AwaitedResource}
use Rattle.gpu_d3d12.proofs.Awaiting.{rooms, state, has_room, begins_refused, begins_open}
use Rattle.gpu_d3d12.proofs.Records.{row_there, row_sums, as_many}
use Rattle.gpu_d3d12.proofs.committed_requests.CommittedRequests.begin.Goals as goal
use Rattle.gpu_d3d12.proofs.committed_requests.CommittedRequests.begin.Goals.{After-index_mut}

below : (c : After-index_mut) → c.args.index < length c.self.inside.types.items
below c =
    let many = as_many c.self.inside.types.items in
    let same = ap (λ (s : RecordState). length s.records) c.self.view_is in
    let there = c.requires.there in
    omega (arith, many, same, there)

closed : (c : After-index_mut) → c.self.inside.awaited ≡ None
closed c = search rules

view : (c : After-index_mut) → state c.self.inside.types.items None ≡ c.args.self.now
view c = subst (λ (o : Option AwaitedResource). state c.self.inside.types.items o ≡ c.args.self.now) (closed c) c.self.view_is

sums : (c : After-index_mut) → total_size c.index_mut.result.now.items < 2 ^ 64
sums c =
    subst (λ (rs : List CommittedRecord). total_size rs < 2 ^ 64) (row_there c.self.inside.types.items c.args.index c.index_mut.result.now (below c) c.index_mut.ensures.value)
    (c.self.invariant.0 c.args.index)

pub make_room-requires : goal.make_room-requires
make_room-requires c = sums ((goal.at.make_room-requires c).After-index_mut)

pub invariant_of-self : goal.invariant_of-self
invariant_of-self c =
    let at = (goal.at.invariant_of-self c).After-index_mut in
    let rows = c.self.inside.types.items in
    let w = c.make_room.new.records in (
      row_sums rows c.args.index w (below at) c.self.invariant.0 (subst (λ (rs : List CommittedRecord). total_size rs < 2 ^ 64) (sym c.in-Err.ensures.items) (sums at)),
      subst (λ (o : Option AwaitedResource). HasRoom (rooms (slice_set rows c.args.index w)) o) (sym (closed at)) tt,
    )

pub invariant_of-self-in-Ok : goal.invariant_of-self-in-Ok
invariant_of-self-in-Ok c =
    let at = (goal.at.invariant_of-self-in-Ok c).After-index_mut in
    let rows = c.self.inside.types.items in
    let w = c.make_room.new.records in (
      row_sums rows c.args.index w (below at) c.self.invariant.0 (subst (λ (rs : List CommittedRecord). total_size rs < 2 ^ 64) (sym c.in-Ok.ensures.items) (sums at)),
      has_room rows c.args.index c.args.size w (below at) c.in-Ok.ensures.room,
    )

pub returns-in-Err : goal.returns-in-Err
returns-in-Err c =
    let at = (goal.at.returns-in-Err c).After-index_mut in
    let rows = c.self.inside.types.items in
    let w = c.make_room.new.records in
    subst (λ (o : Option AwaitedResource). Begins c.args.self.now c.args.index c.args.size (Err c.in-Err.error) (state (slice_set rows c.args.index w) o)) (sym (closed at))
    (begins_refused rows c.args.index c.args.size c.index_mut.result.now w c.args.self.now (view at) (below at) c.index_mut.ensures.value c.in-Err.ensures.items c.in-Err.error c.in-Err.ensures.cause)

pub returns-in-Ok : goal.returns-in-Ok
returns-in-Ok c =
    let at = (goal.at.returns-in-Ok c).After-index_mut in
    let rows = c.self.inside.types.items in
    begins_open rows c.args.index c.args.size c.index_mut.result.now c.make_room.new.records c.args.self.now (view at) (below at) c.index_mut.ensures.value c.in-Ok.ensures.items c.in-Ok.ensures.fits
