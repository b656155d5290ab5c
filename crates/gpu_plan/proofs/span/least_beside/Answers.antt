use Rattle.gpu_plan.proofs.Spanning.{between_on, none_by_other}
use Rattle.gpu_plan.proofs.span.least_beside.Goals as goal

pub returns-in_err-past_both : goal.returns-in_err-past_both
returns-in_err-past_both c =
    let a = c.args in
    let reached = rw c.in_ok-past_same.was at c.reach.ensures in
    let none = rw c.in_err-past_both.was at c.reach-in-loop-o.ensures in
    rw c.from_residual-in_err-past_both.ensures (none_by_other a.page a.same.now a.other.now a.r.now c.loop-o.o c.loop-o.same_next c.loop-o.other_next _ c.loop-o.invariant reached none)

pub loop-o-preserved : goal.loop-o-preserved
loop-o-preserved c =
    let a = c.args in
    let same = rw c.in_ok-past_same.was at c.reach.ensures in
    let other = rw c.in_ok-past_both.was at c.reach-in-loop-o.ensures in
    between_on a.page a.same.now a.other.now a.r.now c.loop-o.o c.loop-o.same_next c.loop-o.other_next _ _ c.loop-o.invariant same other
