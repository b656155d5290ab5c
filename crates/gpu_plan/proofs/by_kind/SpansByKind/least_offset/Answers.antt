use Rattle.gpu_plan.specs.declared.resource.Kind.TheVariants.{Linear, Optimal}
use Rattle.gpu_plan.proofs.Listed.{found_from, apart_kinds, kinds_apart, linear_or_optimal, optimal_or_linear}
use Rattle.gpu_plan.proofs.by_kind.SpansByKind.least_offset.Goals as goal

pub returns-in-Linear : goal.returns-in-Linear
returns-in-Linear c = λ placed are.
    let a = c.args in
    let found = rw (c.deref.ensures.value, c.deref-in-Linear.ensures.value) at c.least_beside.ensures in
    found_from a.page Linear Optimal placed a.self.now.linear.items a.self.now.optimal.items a.r.now c.least_beside.result c.requires.paged c.requires.sized c.in-Linear.is apart_kinds linear_or_optimal
    c.requires.ordered.linear.sized are.linear are.optimal found

pub returns-in-Optimal : goal.returns-in-Optimal
returns-in-Optimal c = λ placed are.
    let a = c.args in
    let found = rw (c.deref-in-Optimal.ensures.value, c.deref-in-Optimal-2.ensures.value) at c.least_beside-in-Optimal.ensures in
    found_from a.page Optimal Linear placed a.self.now.optimal.items a.self.now.linear.items a.r.now c.least_beside-in-Optimal.result c.requires.paged c.requires.sized c.in-Optimal.is kinds_apart optimal_or_linear
    c.requires.ordered.optimal.sized are.optimal are.linear found
