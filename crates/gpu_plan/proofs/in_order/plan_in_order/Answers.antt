use Rattle.std.proofs.Common.{arith, refl}
use Rattle.gpu_plan.specs.Plan.{IsPlan}
use Rattle.gpu_plan.proofs.Planning.{plan_more, sound_more, plan_whole, plan_apart, refused}
use Rattle.gpu_plan.proofs.in_order.plan_in_order.Goals as goal

pub returns-in_default-clause-planned : goal.returns-in_default-clause-planned
returns-in_default-clause-planned c =
    let none = rw c.in_default.is at (c.least_offset.ensures c.loop-r.placed.items c.loop-r.invariant.spans) in
    refused c.args.page c.args.resources.now c.loop-r.placed.items c.loop-r.r-index _ _ (omega arith) c.loop-r.invariant.plan refl none

pub insert-requires-clause-sound : goal.insert-requires-clause-sound
insert-requires-clause-sound c =
    let found = rw c.in-Some.is at (c.least_offset.ensures c.loop-r.placed.items c.loop-r.invariant.spans) in
    record { sized = (c.requires.valid c.loop-r.r-index _ (omega arith)).0; within = found.1 }

pub loop-r-preserved : goal.loop-r-preserved
loop-r-preserved c =
    let found = rw c.in-Some.is at (c.least_offset.ensures c.loop-r.placed.items c.loop-r.invariant.spans) in
    let spans = rw c.in_ok-insert.was at (c.insert.ensures.spans c.loop-r.placed.items c.loop-r.invariant.spans) in
    rw c.in_ok-push.ensures.items (record {
      plan = plan_more c.args.page c.args.resources.now c.loop-r.placed.items c.loop-r.r-index _ _ (omega arith) c.loop-r.invariant.plan refl found.0;
      sound = sound_more c.loop-r.placed.items _ c.loop-r.invariant.sound (record { sized = (c.requires.valid c.loop-r.r-index _ (omega arith)).0; within = found.1 });
      spans = spans;
      ordered = c.in_ok-insert.ensures.ordered;
    })

pub returns : goal.returns
returns c =
    let plan : IsPlan c.args.page c.args.resources.now c.loop-r.placed.items = plan_whole c.args.page c.args.resources.now c.loop-r.placed.items c.loop-r.r-index (omega arith) c.loop-r.invariant.plan in
    record { planned = plan; apart = plan_apart c.args.page c.args.resources.now c.loop-r.placed.items plan; within = c.loop-r.invariant.sound }
