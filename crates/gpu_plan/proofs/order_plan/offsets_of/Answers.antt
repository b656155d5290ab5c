use Rattle.std.proofs.Common.{length, arith}
use Rattle.gpu_plan.specs.Plan.{no_resource}
use Rattle.gpu_plan.proofs.Ordering.{indices_below}
use Rattle.gpu_plan.proofs.Offsets.{offset_set}
use Rattle.gpu_plan.proofs.order_plan.offsets_of.Goals as goal

pub index_mut-requires : goal.index_mut-requires
index_mut-requires c =
    let each = c.loop-k.invariant.each in
    let below = indices_below (length c.args.indices.now) c.args.indices.now c.requires.permuted c.loop-k.k 0 (omega arith) in
    omega arith

pub loop-k-preserved : goal.loop-k-preserved
loop-k-preserved c = offset_set c.loop-k.offsets.items c.args.indices.now c.args.placed.now c.loop-k.k (record { resource = no_resource; offset = 0 }) c.requires.placed c.requires.permuted (omega arith) c.loop-k.invariant
