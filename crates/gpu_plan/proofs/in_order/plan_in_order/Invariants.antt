use Rattle.std.proofs.Common.{All, take}
use Rattle.gpu_plan.specs.Plan.{IsPlan, IsSound}
use Rattle.gpu_plan.specs.ByKind.{AreSpans, BothOrdered}
use Rattle.gpu_plan.proofs.in_order.plan_in_order.Given as goal

abbrev pub invariant-loop-r : goal.invariant-loop-r
invariant-loop-r l = record {
  plan : IsPlan l.page (take l.r-index l.resources) l.placed.items;
  sound : All IsSound l.placed.items;
  spans : AreSpans l.placed.items l.spans;
  ordered : BothOrdered l.spans;
}
