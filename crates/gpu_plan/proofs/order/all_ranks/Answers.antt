use Rattle.std.proofs.lemmas.List.Elements.{All-push}
use Rattle.gpu_plan.proofs.Ordering.{pushed_index}
use Rattle.gpu_plan.specs.Rank.{Ranks}
use Rattle.gpu_plan.proofs.order.all_ranks.Goals as goal

pub loop-index-preserved : goal.loop-index-preserved
loop-index-preserved c = rw c.in_ok-push.ensures.items (record {
  indices = pushed_index c.loop-index.ranks.items c.rank_of.result c.loop-index.index c.loop-index.invariant.indices c.rank_of.ensures.index;
  ranks = All-push (Ranks c.args.order c.args.resources.now) c.loop-index.ranks.items c.rank_of.result c.loop-index.invariant.ranks c.rank_of.ensures.ranks;
})
