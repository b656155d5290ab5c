use Rattle.std.proofs.Common.{◌≡◌, ◌<◌, sym, ap, subst, arith, length, List, slice_set, Option, Some, Ok}
use Rattle.std.specs.Prelude.{vec_capacity}
use Rattle.gpu_d3d12.specs.Committed.{total_size}
use Rattle.gpu_d3d12.specs.CommittedRequests.{HasPlace, HasRoom, Makes}
use Rattle.gpu_d3d12.specs.declared.committed_record.CommittedRecord.{CommittedRecord}
use Rattle.gpu_d3d12.specs.declared.committed_requests.AwaitedResource.{AwaitedResource}
use Rattle.gpu_d3d12.proofs.Awaiting.{rooms, state, type_there, place_there, made_at}
use Rattle.gpu_d3d12.proofs.Records.{row_sums, sum_added}
use Rattle.gpu_d3d12.proofs.committed_requests.CommittedRequests.made.Goals as goal
use Rattle.gpu_d3d12.proofs.committed_requests.CommittedRequests.made.Goals.{After-index_mut}

room : (c : After-index_mut) → HasRoom (rooms c.self.inside.types.items) (Some c.in-Some.awaited)
room c = subst (λ (o : Option AwaitedResource). HasRoom (rooms c.self.inside.types.items) o) (sym c.in-Some.ensures.value) c.self.invariant.1

below : (c : After-index_mut) → c.in-Some.awaited.memory_type < length c.self.inside.types.items
below c = type_there c.self.inside.types.items c.in-Some.awaited (room c)

place : (c : After-index_mut) → HasPlace c.in-Some.awaited.size (c.index_mut.result.now.items, vec_capacity c.index_mut.result.now)
place c = place_there c.self.inside.types.items c.in-Some.awaited c.index_mut.result.now (below c) c.index_mut.ensures.value (room c)

pub invariant_of-self-in-Some : goal.invariant_of-self-in-Some
invariant_of-self-in-Some c =
    let at = (goal.at.invariant_of-self-in-Some c).After-index_mut in
    let rows = c.self.inside.types.items in
    let a = c.in-Some.awaited in
    let w = c.push_reserved.new.self in
    let v = c.index_mut.result.now in
    let made : CommittedRecord = record { resource = c.args.resource; size = a.size } in
    let pushed = ap (λ (rs : List CommittedRecord). total_size rs) c.push_reserved.ensures.items in
    let sum = sum_added v.items made in
    let fits = (place at).1 in (
      row_sums rows a.memory_type w (below at) c.self.invariant.0 (omega (arith, pushed, sum, fits)),
      subst (λ (o : Option AwaitedResource). HasRoom (rooms (slice_set rows a.memory_type w)) o) (sym c.in-Some.ensures.after) tt,
    )

pub returns-in-Some : goal.returns-in-Some
returns-in-Some c =
    let at = (goal.at.returns-in-Some c).After-index_mut in
    let rows = c.self.inside.types.items in
    let a = c.in-Some.awaited in
    let view = subst (λ (o : Option AwaitedResource). state rows o ≡ c.args.self.now) (sym c.in-Some.ensures.value) c.self.view_is in
    subst (λ (o : Option AwaitedResource). Makes c.args.self.now c.args.resource (Ok (record { memory_type = a.memory_type; resource = c.args.resource; size = a.size })) (state (slice_set rows a.memory_type c.push_reserved.new.self) o))
    (sym c.in-Some.ensures.after)
    (made_at rows a c.index_mut.result.now c.push_reserved.new.self c.args.resource c.args.self.now view (below at) c.index_mut.ensures.value c.push_reserved.ensures.items)
