use Rattle.std.proofs.Common.{arith}
use Rattle.gpu_plan.proofs.Apart.{plan_aligned, none_meet}
use Rattle.gpu_plan.proofs.Measure.{peak_within}
use Rattle.gpu_plan.proofs.best.plan.Goals as goal

pub overflow_cast-result : goal.overflow_cast-result
overflow_cast-result c =
    let a = c.args in
    let best = rw c.in-Some.is at c.in_ok-best.ensures in
    let peak = c.peak.ensures a.resources.now (rw c.deref-in-Some.ensures.value c.in_ok-starts.ensures) in
    let within = peak_within a.page a.resources.now c.in-Some.best.offsets.items c.in-Some.best.heap c.peak.result (none_meet a.page c.in-Some.best.order a.resources.now c.in-Some.best.offsets.items best.0.planned) best.0.heap_is peak in
    let fits = best.1 in
    omega (arith, within, fits)

pub returns-in-Some-clause-aligned : goal.returns-in-Some-clause-aligned
returns-in-Some-clause-aligned c =
    let best = rw c.in-Some.is at c.in_ok-best.ensures in
    plan_aligned c.args.page c.in-Some.best.order c.args.resources.now c.in-Some.best.offsets.items best.0.planned

pub returns-in-Some-clause-apart : goal.returns-in-Some-clause-apart
returns-in-Some-clause-apart c =
    let best = rw c.in-Some.is at c.in_ok-best.ensures in
    none_meet c.args.page c.in-Some.best.order c.args.resources.now c.in-Some.best.offsets.items best.0.planned

pub returns-in-Some-clause-peak : goal.returns-in-Some-clause-peak
returns-in-Some-clause-peak c = c.peak.ensures c.args.resources.now (rw c.deref-in-Some.ensures.value c.in_ok-starts.ensures)

pub returns-in-Some-clause-heap : goal.returns-in-Some-clause-heap
returns-in-Some-clause-heap c =
    let a = c.args in
    let best = rw c.in-Some.is at c.in_ok-best.ensures in
    let peak = c.peak.ensures a.resources.now (rw c.deref-in-Some.ensures.value c.in_ok-starts.ensures) in
    peak_within a.page a.resources.now c.in-Some.best.offsets.items c.in-Some.best.heap c.peak.result (none_meet a.page c.in-Some.best.order a.resources.now c.in-Some.best.offsets.items best.0.planned) best.0.heap_is peak

pub returns-in-Some-clause-fits : goal.returns-in-Some-clause-fits
returns-in-Some-clause-fits c = λ none.
    let best = rw c.in-Some.is at c.in_ok-best.ensures in
    let large = none c.in-Some.best.order c.in-Some.best.offsets.items c.in-Some.best.heap best.0.among best.0.planned best.0.heap_is in
    let fits = best.1 in
    absurd (omega arith)
