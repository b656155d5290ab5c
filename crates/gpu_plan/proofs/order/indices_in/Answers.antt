use Rattle.std.proofs.Common.{arith}
use Rattle.gpu_plan.proofs.Ordering.{cmp, order_is}
use Rattle.gpu_plan.proofs.order.indices_in.Goals as goal

pub returns : goal.returns
unfolding cmp
returns c =
    let made = rw c.deref-rank-items.ensures.value at c.loop-rank.invariant in
    order_is c.args.order c.args.resources.now c.in_ok-ranks.ranks.items c.sort_unstable.new.self.items c.loop-rank.indices.items c.loop-rank.rank-index c.requires.valid c.in_ok-ranks.ensures.indices
    c.in_ok-ranks.ensures.ranks c.sort_unstable.ensures.permutation c.sort_unstable.ensures.sorted (omega arith) made
