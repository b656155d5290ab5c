use Rattle.std.proofs.Common.{arith}
use Rattle.gpu_plan.specs.declared.span.Span.{Span}
use Rattle.gpu_plan.proofs.Spanning.{reached, behind_on, reaching_on, reaching_past, reaching_none}
use Rattle.gpu_plan.proofs.span.reach.Goals as goal
use Rattle.gpu_plan.proofs.span.reach.Goals.{then-is_alive+else-page_of+then-page_of-2+in_ok-offset, then-is_alive+else-page_of+else-page_of-2, else-is_alive}
use Rattle.std.proofs.lemmas.Bool.{iff_false}

abbrev none : Span
none = record { first = 0; last = 0; start = 0; end = 0 }

pub returns-then-page_of : goal.returns-then-page_of
returns-then-page_of c =
    let a = c.args in
    reached a.page a.r.now a.o a.spans.now c.loop-next.next c.loop-next.offset c.loop-next.invariant
    (behind_on a.page a.r.now c.loop-next.offset a.spans.now c.loop-next.next none c.requires.paged (omega arith) c.requires.sorted (omega arith))

pub returns-in_err-offset : goal.returns-in_err-offset
returns-in_err-offset c =
    let a = c.args in
    let gone = rw c.in_err-offset.was at c.past_span.ensures in
    rw c.from_residual.ensures (reaching_none a.page a.r.now a.o a.spans.now c.loop-next.next c.loop-next.offset none c.requires.paged c.requires.sized (omega arith) c.loop-next.invariant
    (c.is_alive.ensures.0 c.if-is_alive.true) (omega arith) gone)

pub loop-next-preserved : goal.loop-next-preserved
loop-next-preserved c =
    let a = c.args in
    elim c.if-is_alive.branch [
      | then-is_alive+else-page_of+then-page_of-2+in_ok-offset w ↦
          let found = rw w.in_ok-offset.was at w.past_span.ensures in
          rw w.offset-is (reaching_past a.page a.r.now a.o a.spans.now c.loop-next.next c.loop-next.offset _ none c.requires.paged c.requires.sized (omega arith) c.loop-next.invariant
          (c.is_alive.ensures.0 w.if-is_alive.true) (omega arith) (omega arith) found.0 found.1 found.2 found.3)
      | then-is_alive+else-page_of+else-page_of-2 w ↦
          rw w.offset-is (reaching_on a.page a.r.now a.o a.spans.now c.loop-next.next c.loop-next.offset none (omega arith) c.loop-next.invariant (λ _. omega arith))
      | else-is_alive w ↦
          rw w.offset-is (reaching_on a.page a.r.now a.o a.spans.now c.loop-next.next c.loop-next.offset none (omega arith) c.loop-next.invariant (λ alive. absurd (iff_false c.is_alive.ensures w.if-is_alive.false alive)))
    ]
