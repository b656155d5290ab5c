use Rattle.std.proofs.Common.{◌∙◌, length}
use Rattle.gpu_plan.proofs.Ordering.{indices_below, indices_length}
use Rattle.gpu_plan.proofs.OnePlan.{asked_in, refused_large, made_is, ends_fit}
use Rattle.gpu_plan.proofs.order_plan.plan_by.Goals as goal

pub resources_at-requires : goal.resources_at-requires
resources_at-requires c = rw c.deref.ensures.value (indices_below (length c.args.resources.now) c.in_ok-indices.indices.items c.in_ok-indices.ensures.permutation)

pub plan_in_order-requires-clause-valid : goal.plan_in_order-requires-clause-valid
plan_in_order-requires-clause-valid c =
    let below = indices_below (length c.args.resources.now) c.in_ok-indices.indices.items c.in_ok-indices.ensures.permutation in
    let chosen = rw c.deref.ensures.value at c.in_ok-chosen.ensures in
    rw (c.deref-2.ensures.value, chosen) (asked_in c.args.resources.now c.in_ok-indices.indices.items c.requires.valid below)

pub returns-in_default-clause-large : goal.returns-in_default-clause-large
returns-in_default-clause-large c =
    let a = c.args in
    let chosen = rw c.deref.ensures.value at c.in_ok-chosen.ensures in
    let none = rw c.in_default.is at c.in_ok-placed.ensures.planned in
    let refused = rw (c.deref-2.ensures.value, chosen) at none in
    refused_large a.page a.order a.resources.now c.in_ok-indices.indices.items c.in_ok-indices.ensures refused

pub offsets_of-requires-clause-permuted : goal.offsets_of-requires-clause-permuted
offsets_of-requires-clause-permuted c =
    let long = indices_length (length c.args.resources.now) c.in_ok-indices.indices.items c.in_ok-indices.ensures.permutation in
    rw (c.deref-3.ensures.value, long) c.in_ok-indices.ensures.permutation

pub heap_of-heap-requires-clause-each : goal.heap_of-heap-requires-clause-each
heap_of-heap-requires-clause-each c =
    let long = indices_length (length c.args.resources.now) c.in_ok-indices.indices.items c.in_ok-indices.ensures.permutation in
    let each = rw c.deref-3.ensures.value at c.in_ok-offsets.ensures.each in
    rw c.deref-5.ensures.value (each ∙ long)

pub heap_of-heap-requires-clause-ends : goal.heap_of-heap-requires-clause-ends
heap_of-heap-requires-clause-ends c =
    let a = c.args in
    let chosen = rw c.deref.ensures.value at c.in_ok-chosen.ensures in
    let some = rw c.in-Some.is at c.in_ok-placed.ensures.planned in
    let plan = rw (c.deref-2.ensures.value, chosen) at some in
    let sound = rw c.in-Some.is at c.in_ok-placed.ensures.within in
    let at = rw (c.deref-3.ensures.value, c.deref-4.ensures.value) at c.in_ok-offsets.ensures.offsets in
    let made = made_is a.resources.now c.in_ok-indices.indices.items c.in-Some.placed.items c.in_ok-offsets.offsets.items plan.each at in
    rw c.deref-5.ensures.value (ends_fit a.resources.now c.in_ok-indices.indices.items c.in-Some.placed.items c.in_ok-offsets.offsets.items c.in_ok-indices.ensures.permutation made sound)

pub returns-clause-planned : goal.returns-clause-planned
returns-clause-planned c =
    let a = c.args in
    let chosen = rw c.deref.ensures.value at c.in_ok-chosen.ensures in
    let some = rw c.in-Some.is at c.in_ok-placed.ensures.planned in
    let plan = rw (c.deref-2.ensures.value, chosen) at some in
    let at = rw (c.deref-3.ensures.value, c.deref-4.ensures.value) at c.in_ok-offsets.ensures.offsets in
    let made = made_is a.resources.now c.in_ok-indices.indices.items c.in-Some.placed.items c.in_ok-offsets.offsets.items plan.each at in
    let long = indices_length (length c.args.resources.now) c.in_ok-indices.indices.items c.in_ok-indices.ensures.permutation in
    let each = rw c.deref-3.ensures.value at c.in_ok-offsets.ensures.each in
    record {
      each = each ∙ long;
      indices = c.in_ok-indices.indices.items;
      ordered = c.in_ok-indices.ensures;
      planned = rw made plan;
    }
