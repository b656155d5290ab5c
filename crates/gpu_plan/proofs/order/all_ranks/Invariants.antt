use Rattle.std.proofs.Common.{◌≡◌, All}
use Rattle.std.specs.Prelude.{map}
use Rattle.std.specs.List.{range_with_len}
use Rattle.gpu_plan.specs.Rank.{Ranks}
use Rattle.gpu_plan.proofs.order.all_ranks.Given as goal

abbrev pub invariant-loop-index : goal.invariant-loop-index
invariant-loop-index l = record {
  indices : map (λ x. x.index) l.ranks.items ≡ range_with_len 0 l.index;
  ranks : All (Ranks l.order l.resources) l.ranks.items;
}
